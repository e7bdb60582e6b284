-- Kinds and parts by their numbers, and the room of a part in a body. Assumes nothing.
use Rattle.wire.proofs.Prelude.{◌≡◌, refl, sym, ap, ◌∙◌, Bool, true, false, List, [], ◌∷◌, Option, some, none}
use Rattle.std.specs.Prelude.{Result, Ok, Err, IsOk}
use Rattle.wire.proofs.Prelude.{inl, inr, ℕ, ◌+◌, ◌≤◌, arith, eqb, eqb-true, eqb-false, eq-eqb}
use Rattle.wire.specs.Names.{pick, is_some, with_number, Every}
use Rattle.wire.proofs.Laws.{or-either, clash, cases, some_is, with-number, same-number}
use Rattle.datagram.specs.declared.kind.Kind.{Kind as Named}
use Rattle.datagram.specs.declared.kind.UnknownKind.{UnknownKind}
use Rattle.datagram.specs.Kind.{Decodes, kind_by}
use Rattle.datagram.specs.Names.{Kind, send, receive, write, acknowledge, time_out}
use Rattle.datagram.specs.Names.{open_init, open_try, open_acknowledge, open_confirm}
use Rattle.datagram.specs.Names.{close_init, close_confirm, time_out_on_close, kinds, kind_number, kind_of}
use Rattle.datagram.specs.Names.{is_kind, is_of, Part, channel_part, sequence_part, timeout_part, digest_part}
use Rattle.datagram.specs.Names.{packet_part, verdict_part, port_part, counterparty_part, order_part}
use Rattle.datagram.specs.Names.{end_verdict_part, version_part, part_number, is_part, part_size, has_part}
use Rattle.datagram.specs.Names.{parts_size, size_before}

-- KINDS are known by their numbers
pub kind-of : (k : Kind) → kind_of (kind_number k) ≡ some k
unfolding with_number
kind-of send = refl
kind-of receive = refl
kind-of write = refl
kind-of acknowledge = refl
kind-of time_out = refl
kind-of open_init = refl
kind-of open_try = refl
kind-of open_acknowledge = refl
kind-of open_confirm = refl
kind-of close_init = refl
kind-of close_confirm = refl
kind-of time_out_on_close = refl

pub number_of : (n : ℕ) (k : Kind) → kind_of n ≡ some k → n ≡ kind_number k
number_of n k h = with-number kind_number n kinds k h

pub is-of : (j : Kind) (x : Option Kind) → is_of j x ≡ true → x ≡ some j
is-of j none h = clash {b = false} h refl
is-of j (some k) h = ap some (sym (same-number kind_number kinds kind-of j k h))

-- whether a number is a kind's
pub of_number : (j : Kind) (n : ℕ) → is_of j (kind_of n) ≡ eqb n (kind_number j)
of_number j n =
    cases (eqb n (kind_number j))
    (λ e.
    let q : kind_of n ≡ some j = ap (λ (m : ℕ). kind_of m) (eqb-true n (kind_number j) e) ∙ kind-of j in
    ap (is_of j) q ∙ eq-eqb (kind_number j) (kind_number j) refl ∙ sym e)
    (λ e.
    cases (is_of j (kind_of n))
    (λ f. absurd (eqb-false n (kind_number j) e (number_of n j (is-of j (kind_of n) f)))) (λ f. f ∙ sym e))

-- what is read of a number: its kind, and a kind where there is one
pub decoded : (n : ℕ) (r : Result Named UnknownKind) (k : Named) → Decodes n r → r ≡ Ok k → kind_of n ≡ some (kind_by k)
decoded n r k h e = rw e at h

pub decodes : (n : ℕ) (r : Result Named UnknownKind) → Decodes n r → is_some (kind_of n) ≡ true → IsOk r
decodes n (Ok k) h q = refl
decodes n (Err e) h q = clash {b = false} (rw h.1 at q) refl

-- a datagram is not of two kinds
pub kinds-apart {ℓ} : {A : Type ℓ} {x : Option Kind} (j k : Kind) → x ≡ some j → x ≡ some k → is_kind j k ≡ false → A
kinds-apart j k p q n =
    let e : j ≡ k = some_is (sym p ∙ q) in
    clash (eq-eqb (kind_number j) (kind_number k) (ap kind_number e)) n

-- what holds of all of a list, perhaps with one more in front
pub of-rest : {A : Type 0} (P : A → Type 0) (b : Bool) (x : A) (xs ys : List A) → (Every P ys → Every P xs) →
    Every P (pick b (x ∷ xs) ys) → Every P xs
of-rest P true x xs ys f h = h.1
of-rest P false x xs ys f h = f h

-- PARTS are known by their numbers
abbrev parts : List Part
parts =
    channel_part ∷ sequence_part ∷ timeout_part ∷ digest_part ∷ packet_part ∷ verdict_part ∷ port_part ∷ counterparty_part ∷
    order_part ∷ end_verdict_part ∷ version_part ∷ []

part_of : (p : Part) → with_number part_number (part_number p) parts ≡ some p
unfolding with_number
part_of channel_part = refl
part_of sequence_part = refl
part_of timeout_part = refl
part_of digest_part = refl
part_of packet_part = refl
part_of verdict_part = refl
part_of port_part = refl
part_of counterparty_part = refl
part_of order_part = refl
part_of end_verdict_part = refl
part_of version_part = refl

pub is-part : (p q : Part) → is_part p q ≡ true → p ≡ q
is-part = same-number part_number parts part_of

-- a part of a body lies within it
pub part_room : (p : Part) (ps : List Part) → has_part p ps ≡ true → size_before p ps + part_size p ≤ parts_size ps
unfolding has_part size_before parts_size
part_room p [] h = clash {b = false} h refl
part_room p (q ∷ qs) h =
    let ih = part_room p qs in
    cases (is_part p q)
    (λ e. let s : part_size p ≡ part_size q = ap part_size (is-part p q e) in rw (size_before, e) (omega arith))
    (λ e. elim (or-either h) [
      | inl y ↦ clash y e
      | inr y ↦ let k = ih y in rw (size_before, e) (omega arith)
    ])
