-- A sound datagram by its frame, its length, its context and its body. Assumes nothing.
use Rattle.std.specs.Prelude.{Some, None, IsSome}
use mathlib.Core.Option.{none}
use mathlib.Core.Path.{◌≡◌, refl, sym, ap, ◌∙◌}
use mathlib.Core.Bool.{Bool, true, false}
use mathlib.Core.List.{List, [], ◌∷◌}
use Prim.Native.Nat.{ℕ, zero, suc, ◌+◌, ◌*◌, ◌≤◌, ◌<◌}
use native.Mathlib.Omega.{arith}
use lib.Dec.{leb, ltb, eqb}
use lib.ListN.{length, get_or}
use borrow.Author.Tests.{eqb-true, eqb-false, ne_eqb, leb-true, leb-false, le-leb, lt-leb, lt-ltb, le-ltb}
use Rattle.wire.specs.Choice.{◌and◌, is_some, is_in, with_number}
use Rattle.wire.specs.Bytes.{Bytes, are_zero, part, field}
use Rattle.wire.specs.declared.Frame.{Frame}
use Rattle.wire.specs.Frame.{frame_in}
use Rattle.wire.proofs.ChoiceLaws.{and_both, and_assoc, and-false, clash, cases}
use Rattle.wire.proofs.BytesLaws.{field_below, bytes-part}
use Rattle.wire.proofs.PartLaws.{field-split, field-one, are_zero-number}
use Rattle.wire.specs.Frame.{frame_size}
use Rattle.datagram.specs.Kind.{kind_of, is_sized}
use Rattle.datagram.specs.Claim.{claim_of}
use Rattle.datagram.specs.Datagram.{kind_in, datagram_in, is_context_sound, is_sound}
use Rattle.sound.specs.Sound.{is_body_sound}

-- what stands at a place that is there does not depend on what would be read behind the end
pub get_or-there : (bs : List ℕ) (i x y : ℕ) → i < length bs → get_or bs i x ≡ get_or bs i y
get_or-there [] i x y h = absurd (omega arith)
get_or-there (b ∷ bs) zero x y h = refl
get_or-there (b ∷ bs) (suc i) x y h = get_or-there bs i x y (omega arith)

-- THE CONTEXT'S LAST WORD: two bytes of the port, one of the connection, and five that are zero
word_below : (w port connection zeros : ℕ) → port < 65536 → w ≡ port + 65536 * (connection + 256 * zeros) →
    ltb w 131072 ≡ (eqb zeros 0 and leb connection 1)
unfolding ◌and◌
word_below w p c z h e = by_cases (eqb z 0) refl (leb c 1) refl where
  by_cases : (x : Bool) → eqb z 0 ≡ x → (y : Bool) → leb c 1 ≡ y → ltb w 131072 ≡ (x and y)
  by_cases true q true r = lt-ltb w 131072 (omega (arith, eqb-true z 0 q, leb-true c 1 r))
  by_cases true q false r = le-ltb w 131072 (omega (arith, leb-false c 1 r))
  by_cases false q y r = le-ltb w 131072 (omega (arith, eqb-false z 0 q))

pub context-word : (d : List ℕ) → Bytes d → 38 ≤ length d →
    ltb (field 30 8 d) 131072 ≡ (are_zero (part 33 5 d) and leb (get_or d 32 9) 1)
unfolding field
context-word d b l =
    let split = field-split 2 6 30 d (omega arith) in
    let rest = field-split 1 5 32 d (omega arith) in
    let connection : field 32 1 d ≡ get_or d 32 9 = field-one 32 d (omega arith) ∙ get_or-there d 32 0 9 (omega arith) in
    let zeros = are_zero-number (part 33 5 d) (bytes-part 33 5 d b) in
    word_below (field 30 8 d) (field 30 2 d) (get_or d 32 9) (field 33 5 d) (field_below 30 2 d b) (omega arith) ∙
    ap (λ (x : Bool). x and leb (get_or d 32 9) 1) (sym zeros)

-- the claims are those from 1 to 6
above : (n : ℕ) → 7 ≤ n → is_some (claim_of n) ≡ is_in 1 6 n
unfolding with_number ◌and◌
above n h =
    rw (
      ne_eqb n 1 (λ e. omega arith),
      ne_eqb n 2 (λ e. omega arith),
      ne_eqb n 3 (λ e. omega arith),
      ne_eqb n 4 (λ e. omega arith),
      ne_eqb n 5 (λ e. omega arith),
      ne_eqb n 6 (λ e. omega arith),
      le-leb 1 n (omega arith),
      lt-leb n 6 (omega arith),
    )

pub claim-known : (n : ℕ) → is_some (claim_of n) ≡ is_in 1 6 n
unfolding with_number ◌and◌
claim-known zero = refl
claim-known (suc zero) = refl
claim-known (suc (suc zero)) = refl
claim-known (suc (suc (suc zero))) = refl
claim-known (suc (suc (suc (suc zero)))) = refl
claim-known (suc (suc (suc (suc (suc zero))))) = refl
claim-known (suc (suc (suc (suc (suc (suc zero)))))) = refl
claim-known (suc (suc (suc (suc (suc (suc (suc n))))))) =
    above (suc (suc (suc (suc (suc (suc (suc n))))))) (omega arith)

-- THE TESTS in the order of the code: whether the kind is known comes last, with the body
arranged : (framed known size context parts : Bool) → framed ≡ true →
    (framed and known and size and context and parts) ≡ (size and (context and (known and parts)))
unfolding ◌and◌
arranged true true size context parts e = and_assoc size context parts
arranged true false size context parts e = rw (and-false context, and-false size)
arranged false known size context parts e = clash {b = false} e refl

-- THE FRAME
module _ (d : List ℕ) where
  abbrev framed : Bool
  framed = leb frame_size (length d) and eqb (field 0 4 d) (length d)

  -- bytes that are no frame
  pub malformed : frame_in d ≡ None → is_sound d ≡ false
  unfolding frame_in is_sound ◌and◌
  malformed h = cases framed (λ e. let no = rw e at h in cc) (λ e. rw e)

  by_parts : framed ≡ true →
      is_sound d ≡
      (is_sized (kind_of (kind_in d)) (length d) and (is_context_sound d and is_body_sound (kind_of (kind_in d)) d))
  unfolding is_sound is_body_sound datagram_in
  by_parts e = arranged framed _ _ _ _ e

  pub kind-framed : {f : Frame} → frame_in d ≡ Some f → f.kind ≡ kind_in d
  unfolding frame_in kind_in
  kind-framed {f} h = cases framed (λ e. let same = rw e at h in cc) (λ e. let no = rw e at h in cc)

  length-framed : {f : Frame} → frame_in d ≡ Some f → f.length ≡ length d
  unfolding frame_in
  length-framed {f} h =
      cases framed
      (λ e. let same = rw e at h in let size = eqb-true (field 0 4 d) (length d) (and_both e).1 in cc)
      (λ e. let no = rw e at h in cc)

  -- a frame of some kind and length
  pub whole : {f : Frame} → frame_in d ≡ Some f →
      (f.length ≡ length d) ×
      (is_sound d ≡ (is_sized (kind_of f.kind) f.length and (is_context_sound d and is_body_sound (kind_of f.kind) d)))
  unfolding frame_in
  whole h =
      let size = length-framed h in
      (size, rw (kind-framed h, size) (cases framed by_parts (λ e. let no = rw e at h in cc)))

  -- and of those that the bytes have
  pub whole-bytes : IsSome (frame_in d) →
      is_sound d ≡
      (is_sized (kind_of (kind_in d)) (length d) and (is_context_sound d and is_body_sound (kind_of (kind_in d)) d))
  unfolding frame_in kind_in
  whole-bytes h =
      cases framed
      (λ e. let w = whole {f = record { kind = field 4 2 d; length = field 0 4 d }} (rw e refl) in rw (← w.0) w.1)
      (λ e. let no = rw e at h in cc)

  -- bytes of no kind
  pub unknown : kind_of (kind_in d) ≡ none → is_sound d ≡ false
  unfolding is_sound ◌and◌
  unknown h = cases framed (λ e. rw (e, h)) (λ e. rw e)
