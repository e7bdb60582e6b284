use Rattle.std.proofs.Common.{◌≡◌, refl, ap, sym, ◌∙◌, ℕ, Bool, true, false}
use Rattle.std.specs.Prelude.{Result, Ok, Err, Some, None, IsSome, IfSome, IfNone}
use Rattle.std.specs.Result.{result_ok}
use Rattle.std.specs.Bool.{then_some}
use Rattle.std.proofs.Math.Option.{none, some}
use Rattle.datagram.specs.declared.kind.Kind.{Kind}
use Rattle.datagram.specs.declared.kind.UnknownKind.{UnknownKind}
use Rattle.datagram.specs.Kind.{Decodes, kind_by, kind_of}
use Rattle.datagram.specs.Datagram.{kind_in}
use Rattle.sound.proofs.SoundLaws.{malformed, unknown, kind-framed}
use Rattle.sound.proofs.sound_kind.Goals as goal

-- the kind that is read, or none
known : (r : Result Kind UnknownKind) (n : ℕ) (k : Kind) → Decodes n r → result_ok r ≡ Some k →
    kind_of n ≡ some (kind_by k)
known (Ok j) n k h e = let same : j ≡ k = cc in rw (← same) h
known (Err e) n k h q = cc

other : (r : Result Kind UnknownKind) (n : ℕ) → Decodes n r → result_ok r ≡ None → kind_of n ≡ none
other (Ok j) n h e = cc
other (Err e) n h q = h.1

-- what is told of a kind, if a test holds
told : (b s : Bool) (k : Kind) (P : Kind → Type 0) → b ≡ s → P k → IfSome (then_some b k) (λ j. (s ≡ true) × P j)
told true s k P e p = (sym e, p)
told false s k P e p = tt

untold : (b s : Bool) (k : Kind) → b ≡ s → IfNone (then_some b k) (s ≡ false)
untold true s k e = tt
untold false s k e = sym e

pub returns-in_err-frame-clause-unsound : goal.returns-in_err-frame-clause-unsound
returns-in_err-frame-clause-unsound c =
    rw c.from_residual.ensures (malformed c.args.d.now (sym c.frame_in.ensures ∙ c.in_err-frame.was))

pub returns-in_err-kind-clause-unsound : goal.returns-in_err-kind-clause-unsound
returns-in_err-kind-clause-unsound c =
    let d = c.args.d.now in
    let same = kind-framed d (sym c.frame_in.ensures ∙ c.in_ok-frame.was) in
    rw c.from_residual-in_err-kind.ensures
    (unknown d (ap kind_of (sym same) ∙ other _ _ c.try_from.ensures (sym c.ok.ensures.value ∙ c.in_err-kind.was)))

pub is_sound-requires : goal.is_sound-requires
is_sound-requires c =
    let d = c.args.d.now in
    let frame = sym c.frame_in.ensures ∙ c.in_ok-frame.was in
    let kind = known _ _ _ c.try_from.ensures (sym c.ok.ensures.value ∙ c.in_ok-kind.was) in
    (rw frame refl, ap kind_of (sym (kind-framed d frame)) ∙ kind)

pub returns-clause-sound : goal.returns-clause-sound
returns-clause-sound c =
    let d = c.args.d.now in
    let frame = sym c.frame_in.ensures ∙ c.in_ok-frame.was in
    let kind = known _ _ _ c.try_from.ensures (sym c.ok.ensures.value ∙ c.in_ok-kind.was) in
    rw c.then_some.ensures
    (told _ _ _ (λ k. kind_of (kind_in d) ≡ some (kind_by k)) c.is_sound.ensures
    (ap kind_of (sym (kind-framed d frame)) ∙ kind))

pub returns-clause-unsound : goal.returns-clause-unsound
returns-clause-unsound c = rw c.then_some.ensures (untold _ _ _ c.is_sound.ensures)
