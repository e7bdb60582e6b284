-- What holds of each kind that passes a test holds of one that passes it; which pass is computed. Assumes nothing.
use Rattle.wire.proofs.Prelude.{◌≡◌, refl, sym, ap, ◌∙◌, Bool, true, false, List, [], ◌∷◌, Option, some, ℕ, eqb}
use Rattle.wire.specs.Names.{pick, is_some, with_number, Every}
use Rattle.wire.proofs.Laws.{clash, cases, some_is}
use Rattle.datagram.specs.declared.kind.Kind.{Kind}
use Rattle.datagram.specs.declared.kind.Kind.TheVariants.{Send, Receive, Write, Acknowledge, TimeOut}
use Rattle.datagram.specs.declared.kind.Kind.TheVariants.{OpenInit, OpenTry, OpenAcknowledge, OpenConfirm}
use Rattle.datagram.specs.declared.kind.Kind.TheVariants.{CloseInit, CloseConfirm, TimeOutOnClose}
use Rattle.datagram.specs.Names.{kind_number, kind_by, Part, body, has_part}
use Rattle.datagram.proofs.KindLaws.{of-rest}

-- THOSE of a list of numbered ones that pass a test
abbrev pub those : {A : Type 0} → (A → Bool) → List A → List A
those f [] = []
those f (x ∷ xs) = pick (f x) (x ∷ those f xs) (those f xs)

pub of-those : {A : Type 0} (number : A → ℕ) (f : A → Bool) (P : A → Type 0) (n : ℕ) (xs : List A) (x : A) →
    with_number number n xs ≡ some x → f x ≡ true → Every P (those f xs) → P x
unfolding with_number
of-those g f P n [] x q y each = clash {b = false} (ap is_some q) refl
of-those g f P n (z ∷ xs) x q y each =
    let ih = of-those g f P n xs x in
    cases (eqb n (g z))
    (λ e.
    let same : x ≡ z = sym (some_is (rw e at q)) in
    let passes : f z ≡ true = ap f (sym same) ∙ y in
    rw same (rw passes at each).0)
    (λ e. ih (rw e at q) y (of-rest P (f z) z (those f xs) (those f xs) (λ r. r) each))

-- THE KINDS that the code names
abbrev named : List Kind
named =
    Send ∷ Receive ∷ Write ∷ Acknowledge ∷ TimeOut ∷ OpenInit ∷ OpenTry ∷ OpenAcknowledge ∷ OpenConfirm ∷ CloseInit ∷
    CloseConfirm ∷ TimeOutOnClose ∷ []

abbrev number : Kind → ℕ
number k = kind_number (kind_by k)

found : (k : Kind) → with_number number (number k) named ≡ some k
unfolding with_number
found Send = refl
found Receive = refl
found Write = refl
found Acknowledge = refl
found TimeOut = refl
found OpenInit = refl
found OpenTry = refl
found OpenAcknowledge = refl
found OpenConfirm = refl
found CloseInit = refl
found CloseConfirm = refl
found TimeOutOnClose = refl

-- of those that have a part
pub by_part : (p : Part) (P : Kind → Type 0) → Every P (those (λ k. has_part p (body (kind_by k))) named) → (k : Kind) →
    has_part p (body (kind_by k)) ≡ true → P k
by_part p P each k h =
    of-those number (λ j. has_part p (body (kind_by j))) P (number k) named k (found k) h each
