-- An unfit store is line 1; else the answer decides: a refusal has written nothing, and acceptance is `accept`. Assumes
-- nothing.
use Rattle.std.specs.Prelude.{Ok, Err}
use Rattle.std.proofs.Common.{◌≡◌, ℕ, ap, sym, ◌∙◌, arith}
use Rattle.slots.specs.Fit.{is_fit}
use Rattle.fit.proofs.UsedLaws.{used-fit, used-unfit}
use Rattle.refusal.specs.Number.{refusal_number}
use Rattle.rules.specs.Call.{told_of, answer_to}
use Rattle.handler.proofs.CallLaws.{refused_call, unfit_call, accepted_call}
use Rattle.handler.proofs.handle.Goals as goal

pub returns-in_default : goal.returns-in_default
returns-in_default c =
    let a = c.args in
    let s = a.store.now in
    let unfit = used-unfit (is_fit s) s (sym c.used_if_fit.ensures ∙ c.in_default.is) in
    let call = unfit_call s a.output.now a.datagram.now unfit in
    record { told = call.told; store = call.store; output = call.output }

pub returns-in_err-answer : goal.returns-in_err-answer
unfolding answer_to
returns-in_err-answer c =
    let a = c.args in
    let r = c.in_err-answer.field-0.0 in
    let is : c.from_residual.result ≡ Err r = grind arith in
    let number : refusal_number r ≡ answer_to a.store.now a.output.now a.datagram.now = grind arith in
    let call = refused_call a.store.now a.output.now a.datagram.now r number in
    record { told = rw is call.told; store = call.store; output = call.output }

pub accept-requires : goal.accept-requires
unfolding answer_to
accept-requires c =
    let s = c.args.store.now in
    (grind arith, (used-fit (is_fit s) s c.in-Some.used (sym c.used_if_fit.ensures ∙ c.in-Some.is)).1)

-- equal lengths are told alike
told-same : (n m : ℕ) → n ≡ m → told_of (Ok n) ≡ told_of (Ok m)
told-same n m h = ap (λ k. told_of (Ok k)) h

pub returns : goal.returns
unfolding answer_to
returns c =
    let a = c.args in
    let zero : answer_to a.store.now a.output.now a.datagram.now ≡ 0 = grind arith in
    let call = accepted_call a.store.now a.output.now a.datagram.now zero in
    let left = c.accept.ensures in
    record {
      told = told-same _ c.accept.result (omega arith) ∙ rw left.size call.told;
      store = rw left.store call.store;
      output = rw left.output call.output;
    }
