-- What a call tells and leaves: where the store is not fit, where a line refuses, and where none does. Assumes nothing.
use Rattle.std.proofs.Common.{◌≡◌, ap, sym, ◌∙◌, List, ℕ, true, false, length, not}
use borrow.Author.Tests.{eq-eqb}
use Rattle.slots.specs.Layout.{store_in}
use Rattle.slots.specs.Fit.{is_fit}
use Rattle.datagram.specs.Datagram.{datagram_in}
use Rattle.refusal.specs.declared.Refusal.{Refusal}
use Rattle.refusal.specs.Number.{refusal_number}
use Rattle.refusal.proofs.NumberLaws.{number_above}
use Rattle.rules.specs.Refusals.{first_given, table, refusals}
use Rattle.rules.specs.Call.{answer_to, effect_in, next_store, Answer, accepted, refused, called}
use Rattle.rules.specs.Call.{call_told, call_store, call_output}

-- what is told and left, by the three equations of a call
pub record Leaves (bs o b : List ℕ) (x : Answer) : Type 0 where
  pub told : x.told ≡ call_told bs o b
  pub store : x.store ≡ call_store bs o b
  pub output : x.output ≡ call_output bs o b

leaves : (bs o b : List ℕ) (x : Answer) → called bs o b ≡ x → Leaves bs o b x
leaves bs o b x h =
    let k = sym h in
    record {
      told = ap (λ (y : Answer). y.told) k;
      store = ap (λ (y : Answer). y.store) k;
      output = ap (λ (y : Answer). y.output) k;
    }

module _ (bs o b : List ℕ) where
  pub refused_call : (r : Refusal) → refusal_number r ≡ answer_to bs o b →
      Leaves bs o b (refused (refusal_number r) bs o)
  unfolding called
  refused_call r e = leaves bs o b (refused (refusal_number r) bs o) (rw (called, ← e, number_above r))

  -- line 1 stands before all others
  pub unfit_call : is_fit bs ≡ false → Leaves bs o b (refused 1 bs o)
  unfolding called answer_to table first_given
  unfit_call h = leaves bs o b (refused 1 bs o) (rw h)

  pub accepted_call : answer_to bs o b ≡ 0 →
      Leaves bs o b
      (accepted (next_store (store_in bs) (datagram_in b)) (effect_in (store_in bs) (datagram_in b)).emitted o)
  unfolding called
  accepted_call a = leaves bs o b _ (rw (called, eq-eqb (answer_to bs o b) 0 a))
