-- What is known behind line 4: the number of packet records, which are in order, and the length and context of a sound
-- datagram of this kind.
use Rattle.std.specs.Prelude.{◌≡◌, List, ℕ, ◌≤◌, length}
use Rattle.std.proofs.Math.Option.{some}
use Rattle.slots.specs.Scan.{RecordsInOrder}
use Rattle.datagram.specs.declared.Context.{Context}
use Rattle.datagram.specs.declared.kind.Kind.{Kind}
use Rattle.datagram.specs.Kind.{kind_by, size_of}
use Rattle.datagram.specs.Datagram.{context_in}

pub record Known (store : List ℕ) (count : ℕ) (datagram : List ℕ) (kind : Kind) (x : Context) : Type 0 where
  pub records : RecordsInOrder store count
  pub long : size_of (some (kind_by kind)) ≤ length datagram
  pub context : context_in datagram ≡ x
