-- The worked cases of the order of packet records, in one table under one statement: the place of a new one, and which
-- stores are in order. What one that becomes free leaves is in Cases.antt.
-- P = 2 unless said; channels and context as there, and all counters are 3.
use Rattle.std.specs.Prelude.{◌≡◌, true, false, List, [], ◌∷◌, map, ℕ, replicate}
use Rattle.std.proofs.Math.Option.{Option, none}
use Rattle.wire.specs.Bytes.{no_digest}
use Rattle.slots.specs.declared.Record.{Record}
use Rattle.slots.specs.Layout.{store_in, bytes_of}
use Rattle.slots.specs.Fit.{is_fit_any_order}
use Rattle.rules.specs.Examples.{a_digest, an_answer, a_send, a_write}
use Rattle.rules.specs.Cases.{counters, a_store, a_record, usual, from_nine, from_ten, a_receive, number_from, after}
use Rattle.rules.specs.Cases.{after_one, after_eleven}

-- PACKET RECORDS, and a store that has these
abbrev pub a_commitment : (channel sequence : ℕ) → Option Record
a_commitment c n = a_record 1 c n 60 a_digest

abbrev pub a_receipt : (channel sequence : ℕ) → Option Record
a_receipt c n = a_record 2 c n 0 no_digest

abbrev pub an_acknowledgement : (channel sequence : ℕ) → Option Record
an_acknowledgement c n = a_record 3 c n 0 an_answer

unfoldable pub holding : List (Option Record) → List ℕ
holding rs = bytes_of (a_store (counters 3 3 3) (counters 3 3 3) rs)

-- those that a call leaves
abbrev pub left : (records : List (Option Record)) → (datagram : List ℕ) → List (Option Record)
left rs d = (store_in (after (holding rs) d)).records

-- TWO IN ORDER: by channel, though the first one's kind and sequence are higher; by kind, though its sequence is
-- higher; by sequence. And what a receive that needs no room answers to a store of each two
abbrev pub each_two : {A : Type 0} → (List ℕ → A) → (Option Record → Option Record → List (Option Record)) → List A
each_two g f =
    map (λ rs. g (holding rs))
    (f (an_acknowledgement 7 2) (a_commitment 8 1) ∷ f (a_commitment 8 2) (a_receipt 8 1) ∷
    f (a_receipt 8 1) (a_receipt 8 3) ∷ [])

abbrev pub of_two : (Option Record → Option Record → List (Option Record)) → List ℕ
of_two f = each_two (λ bs. number_from bs (a_receive usual (from_nine 3 101 0))) f

pub record OrderCases : Type 0 where
  -- A NEW RECORD is placed by channel, then by kind, then by sequence
  pub by_channel : left (a_commitment 8 1 ∷ none ∷ []) (a_write usual 7 2 an_answer) ≡
      an_acknowledgement 7 2 ∷ a_commitment 8 1 ∷ []
  pub by_kind : left (a_receipt 8 1 ∷ none ∷ []) (a_send usual 8 60 0) ≡ a_commitment 8 3 ∷ a_receipt 8 1 ∷ []
  pub by_sequence : left (a_receipt 8 3 ∷ none ∷ []) (a_receive usual (from_ten 1)) ≡ a_receipt 8 1 ∷ a_receipt 8 3 ∷ []
  -- the whole store is the same, whichever of two calls comes first
  pub either_first : after after_one (a_receive usual (from_ten 3)) ≡ after after_eleven (a_send usual 7 60 0)
  -- LINE 1: not for two in order; for two that are exchanged, for two of one key, and with a free one in between, P = 3
  pub rising : of_two (λ x y. x ∷ y ∷ []) ≡ replicate 3 0
  pub falling : of_two (λ x y. y ∷ x ∷ []) ≡ replicate 3 1
  pub key_twice : of_two (λ x y. x ∷ x ∷ []) ≡ replicate 3 1
  pub free_between : of_two (λ x y. x ∷ none ∷ y ∷ []) ≡ replicate 3 1
  -- FIT BUT PERHAPS FOR THE ORDER: all of these but two of one key
  pub any_rising : each_two is_fit_any_order (λ x y. x ∷ y ∷ []) ≡ replicate 3 true
  pub any_falling : each_two is_fit_any_order (λ x y. y ∷ x ∷ []) ≡ replicate 3 true
  pub any_twice : each_two is_fit_any_order (λ x y. x ∷ x ∷ []) ≡ replicate 3 false
  pub any_between : each_two is_fit_any_order (λ x y. x ∷ none ∷ y ∷ []) ≡ replicate 3 true
