-- What is left to store over the slice leaves what all ends do.
use Rattle.std.proofs.Common.{◌≡◌, ◌+◌, ◌*◌, length}
use Rattle.wire.specs.Bytes.{patch}
use Rattle.slots.specs.Layout.{header_size, slot_size, channel_bytes, table_bytes}
use Rattle.openings.specs.Opening.{ends_of, ends_from}
use Rattle.store.proofs.maker.write_openings.Given as goal

abbrev pub invariant-loop-i : goal.invariant-loop-i
invariant-loop-i l =
    (length l.store ≡ length l.initial.store)
    × (patch header_size (table_bytes channel_bytes (ends_of l.openings)) l.initial.store
    ≡ patch (header_size + slot_size * l.i) (table_bytes channel_bytes (ends_from l.openings l.i)) l.store)
