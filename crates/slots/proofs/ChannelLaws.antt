-- Laws of the table of channel ends. Assumes nothing.
use Rattle.wire.proofs.Prelude.{◌≡◌, refl, sym, ap, ◌∙◌, true, false, List, [], ◌∷◌, ◌++◌, Option, none, some, ℕ, zero}
use Rattle.wire.proofs.Prelude.{suc, ◌+◌, ◌-◌, ◌≤◌, ◌<◌, arith, eqb, length, replicate, length-append, length-replicate}
use Rattle.wire.proofs.Prelude.{not-true, eqb-true, eq-eqb, ne_eqb, ltb-true, leb-true, le-leb, lt-ltb}
use Rattle.wire.specs.Names.{is_some, Bytes, are_zero}
use Rattle.wire.proofs.Laws.{and_both, both-and, none-if, some-if, every_append, Byte, bytes-zeros}
use Rattle.slots.specs.declared.Channel.{Channel}
use Rattle.slots.specs.Names.{find, has_free, is_numbered, same_number, channel_at, with_channel}
use Rattle.slots.specs.Names.{insert_channel, distinct, Store, is_below, numbers_fit, entries_fit, store_fits}
use Rattle.slots.specs.Names.{version_size, none_zero, version_fits, padded, is_padded}
use Rattle.slots.proofs.TableLaws.{Each, all-each, each_all, each_map, each-replace, each-find}
use Rattle.slots.proofs.TableLaws.{find-passes, find-replace, find-replace-other, distinct-replace}
use Rattle.slots.proofs.PlaceLaws.{find-place, find-place-other, each-place, distinct-place}

pub channel-number : (n : ℕ) (cs : List (Option Channel)) (c : Channel) → channel_at n cs ≡ some c → c.own.channel ≡ n
unfolding is_numbered
channel-number n cs c h = eqb-true c.own.channel n (find-passes (is_numbered n) cs c h)

-- what is found by a number is found by its own
pub channel-own : (n : ℕ) (cs : List (Option Channel)) (c : Channel) → channel_at n cs ≡ some c →
    channel_at c.own.channel cs ≡ some c
channel-own n cs c h = ap (λ (k : ℕ). channel_at k cs) (channel-number n cs c h) ∙ h

pub channel-with : (c : Channel) (cs : List (Option Channel)) → is_some (channel_at c.own.channel cs) ≡ true →
    channel_at c.own.channel (with_channel c cs) ≡ some c
unfolding is_numbered
channel-with c cs h = find-replace (is_numbered c.own.channel) c cs
    (eq-eqb c.own.channel c.own.channel refl) h

pub channel-with-other : (n : ℕ) (c : Channel) (cs : List (Option Channel)) → (c.own.channel ≡ n → ⊥) →
    channel_at n (with_channel c cs) ≡ channel_at n cs
unfolding is_numbered find
channel-with-other n c cs h =
    let f = ne_eqb c.own.channel n h in
    find-replace-other (is_numbered c.own.channel) (is_numbered n) (some c) cs
    (λ x p q. h (sym (eqb-true x.own.channel c.own.channel p) ∙ eqb-true x.own.channel n q)) (cc)

-- a new end
pub channel-insert : (c : Channel) (cs : List (Option Channel)) → has_free cs ≡ true →
    channel_at c.own.channel cs ≡ none →
    channel_at c.own.channel (insert_channel c cs) ≡ some c
unfolding is_numbered
channel-insert c cs f h = find-place (λ x. false) (is_numbered c.own.channel) c cs f
    (eq-eqb c.own.channel c.own.channel refl) h

pub channel-insert-other : (n : ℕ) (c : Channel) (cs : List (Option Channel)) → has_free cs ≡ true →
    (c.own.channel ≡ n → ⊥) → channel_at n (insert_channel c cs) ≡ channel_at n cs
unfolding is_numbered
channel-insert-other n c cs f h = find-place-other (λ x. false) (is_numbered n) c cs f (ne_eqb c.own.channel n h)

-- NUMBERS differ, and are below the next one
pub numbers-with : (c : Channel) (cs : List (Option Channel)) → distinct same_number cs ≡ true →
    distinct same_number (with_channel c cs) ≡ true
unfolding is_numbered
numbers-with c cs h =
    distinct-replace same_number (is_numbered c.own.channel) (some c) cs
    (λ x p a. let e : x.own.channel ≡ c.own.channel = eqb-true x.own.channel c.own.channel p in (cc, cc)) h

pub numbers-insert : (c : Channel) (cs : List (Option Channel)) → channel_at c.own.channel cs ≡ none →
    distinct same_number cs ≡ true →
    distinct same_number (insert_channel c cs) ≡ true
unfolding is_numbered
numbers-insert c cs n h =
    distinct-place (λ x. false) same_number c cs (λ a b e. eq-eqb a.own.channel b.own.channel
    (sym (eqb-true b.own.channel a.own.channel e))) n h

below-fits : (next : ℕ) (cs : List (Option Channel)) → 1 ≤ next → Each (λ c. c.own.channel < next) cs →
    numbers_fit next cs ≡ true
unfolding numbers_fit is_below
below-fits next cs l h =
    both-and (le-leb 1 next l) (each_all (is_below next) cs (each_map (λ c k. lt-ltb c.own.channel next k) cs h))

module _ (next : ℕ) (cs : List (Option Channel)) (f : numbers_fit next cs ≡ true) where
  pub next_low : 1 ≤ next
  unfolding numbers_fit
  next_low = leb-true 1 next (and_both f).0

  all-below : Each (λ c. c.own.channel < next) cs
  unfolding numbers_fit is_below
  all-below = each_map (λ c h. ltb-true c.own.channel next h) cs (all-each (is_below next) cs (and_both f).1)

  pub number-below : (n : ℕ) (c : Channel) → channel_at n cs ≡ some c → n < next
  number-below n c h =
      let l = each-find (λ c. c.own.channel < next) (is_numbered n) cs c all-below h in
      omega (arith, channel-number n cs c h)

  pub next-unused : channel_at next cs ≡ none
  next-unused = none-if (channel_at next cs) (λ c e. let l = number-below next c e in omega arith)

  pub fits-with : (c : Channel) → is_some (channel_at c.own.channel cs) ≡ true →
      numbers_fit next (with_channel c cs) ≡ true
  fits-with c h =
      let x = some-if (channel_at c.own.channel cs) h in
      below-fits next (with_channel c cs) next_low (each-replace (λ c. c.own.channel < next) _ (some c) cs
      (number-below c.own.channel x.0 x.1, tt) all-below)

  pub fits-insert : (c : Channel) → c.own.channel ≡ next → numbers_fit (next + 1) (insert_channel c cs) ≡ true
  fits-insert c e =
      below-fits (next + 1) (insert_channel c cs) (omega (arith, next_low))
      (each-place (λ x. false) (λ c. c.own.channel < next + 1) c cs (omega arith)
      (each_map (λ c h. let k : c.own.channel < next = h in omega arith) cs all-below))

-- in a fit store
pub fit-numbers : (s : Store) → store_fits s ≡ true → numbers_fit s.next s.channels ≡ true
unfolding store_fits entries_fit
fit-numbers s f = (and_both (and_both (and_both f).0).0).1

-- A VERSION that fits, padded: zeros stand behind it, and it has its size
zeros : (n : ℕ) → are_zero (replicate n 0) ≡ true
unfolding are_zero
zeros zero = refl
zeros (suc n) = both-and refl (zeros n)

padded-append : (v : List ℕ) (n : ℕ) → none_zero v ≡ true → is_padded (v ++ replicate n 0) ≡ true
unfolding is_padded none_zero
padded-append [] zero h = refl
padded-append [] (suc n) h = zeros n
padded-append (b ∷ v) n h =
    let a = and_both h in
    let e = not-true (eqb b 0) a.0 in
    let q = padded-append v n a.1 in
    cc

module _ (v : List ℕ) (f : version_fits v ≡ true) where
  pub padded-fits : is_padded (padded v) ≡ true
  unfolding padded version_fits
  padded-fits = padded-append v (version_size - length v) (and_both f).1

  pub padded-size : length (padded v) ≡ version_size
  unfolding padded version_fits
  padded-size =
      let l = leb-true (length v) version_size (and_both f).0 in
      length-append v (replicate (version_size - length v) 0) ∙
      omega (arith, length-replicate {A = ℕ} (version_size - length v) 0)

pub padded-bytes : (v : List ℕ) → Bytes v → Bytes (padded v)
unfolding padded
padded-bytes v h = every_append Byte v (replicate (version_size - length v) 0) h (bytes-zeros (version_size - length v))
