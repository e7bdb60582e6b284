-- What the proofs use of the libraries, under one name.
pub use mathlib.Core.Path.{◌≡◌, refl, sym, ap, subst, subst₂, ◌∙◌, subst₃}
pub use mathlib.Core.Bool.{Bool, true, not, false}
pub use mathlib.Core.List.{List, [], ◌++◌, append-nil, ◌∷◌, map, append_assoc}
pub use mathlib.Core.Logic.{inl, inr, ◌⊎◌, ⊎_elim, ◌↔◌}
pub use mathlib.Core.Option.{Option, none, some}
pub use Prim.Native.Nat.{ℕ, ◌+◌, ◌^◌, ◌≤◌, ◌<◌, zero, suc, ◌-◌, ◌/◌, ◌%◌, ◌*◌}
pub use native.Mathlib.Omega.{arith}
pub use lib.Dec.{eqb, leb, ltb}
pub use lib.ListN.{length, take, get_elem?, drop, replicate, length-append, length-replicate, length-map, length-drop}
pub use lib.ListN.{length-take, get_or}
pub use lib.Seq.{take_at, take-length, take-append_seam, drop-append_seam, drop_at, take_all}
pub use borrow.Author.Tests.{ltb-true, leb-true, eqb-true, eq-eqb, not-true, eqb-false, leb-false, ne_eqb, ltb-false}
pub use borrow.Author.Tests.{lt-ltb, le-ltb, not-false, le-leb}
