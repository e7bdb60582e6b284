-- What must be left for a new end.
use Rattle.std.specs.Prelude.{◌≡◌, true, ℕ, ◌≤◌}
use Rattle.slots.specs.Limits.{top_channel}
use Rattle.slots.specs.Version.{version_fits}
use Rattle.datagram.specs.Datagram.{Datagram}

-- a channel number, and a version that fits
abbrev pub NumberLeft : (next : ℕ) → Datagram → Type 0
NumberLeft n d = (n ≤ top_channel) × (version_fits d.version ≡ true)
