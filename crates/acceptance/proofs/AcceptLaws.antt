-- What an accepted call tells the plan and the output, what is planned is what the rules say of the call, and an end at
-- its slot. Assumes nothing.
use Rattle.wire.proofs.Prelude.{◌≡◌, refl, sym, ap, subst, ◌∙◌, List, Option, none, some, ℕ, ◌≤◌, ◌<◌, arith}
use Rattle.wire.proofs.Prelude.{false, true, length, ltb-true, ltb-false, leb-true, le-leb, lt-ltb, not-false}
use Rattle.wire.specs.Names.{◌or◌, is_some, Every}
use Rattle.wire.proofs.Laws.{and_both, both-and, some-if}
use Rattle.slots.specs.declared.PortChannel.{PortChannel}
use Rattle.slots.specs.declared.Channel.{Channel}
use Rattle.std.specs.Prelude.{Option as Found, Some, None}
use Rattle.slots.specs.Names.{channel_limit, output_limit, top, is_numbered, channel_at, Store, store_in, is_fit}
use Rattle.slots.specs.Names.{is_below, numbers_fit, fits_end, record_fits, entries_fit}
use Rattle.slots.specs.Effect.{with_times, with_next}
use Rattle.slots.specs.declared.OwnHeight.{OwnHeight}
use Rattle.slots.specs.declared.OwnTime.{OwnTime}
use Rattle.slots.specs.declared.Record.{Record}
use Rattle.slots.specs.Scan.{is_free, holds, first_that}
use Rattle.slots.proofs.Laws.{channel-number, all-each, each_all, each_map}
use Rattle.slots.proofs.SlotTestLaws.{channel-index}
use Rattle.slots.proofs.ScanLaws.{set-insert, set-replace, insert-nothing, replace-nothing}
use Rattle.datagram.specs.Names.{Kind, send, receive, write, acknowledge, time_out, open_init, open_try, open_acknowledge}
use Rattle.datagram.specs.Names.{open_confirm, close_init, close_confirm, time_out_on_close, kind_of, Datagram, datagram_of}
use Rattle.datagram.specs.Names.{datagram_in, kind_in, is_sound, only}
use Rattle.rules.specs.Names.{first_given, table, refusals, makes_end, or_none, end_for, Effect, sends, counted, moved}
use Rattle.rules.specs.Acceptance.{EndEdit, leaves, puts, adds}
use Rattle.rules.specs.Names.{receives, writes_acknowledgement, acknowledges, times_out, makes, moves, effect_of}
use Rattle.rules.specs.Names.{effect_for, placed, number_after, answer_to, effect_in}
use Rattle.rules.proofs.RefusalLaws.{given_at, silent, not-given}
use Rattle.rules.proofs.OrderingLaws.{by-receive, by-acknowledge, by-time-out}
use Rattle.rules.proofs.Accepted.{end-there}
use Rattle.rules.proofs.Accepted.{send-ok, receive_ok, acknowledge-ok, timeout-ok, timeout-on-close-ok, init-ok, try_ok}
use Rattle.effects.specs.Decided.{Left}
use Rattle.acceptance.specs.Planned.{Ready, end_slot, slot_by, with_end}

-- AN ANSWER OF 0: no line of the table gave a number
module _ (s o d : List ℕ) (accepted : answer_to s o d ≡ 0) where
  abbrev channel : Channel
  channel = or_none (end_for (store_in s) (datagram_in d))

  -- of its kind
  of-kind : {k : Kind} → (datagram_in d).kind ≡ some k → first_given (some k) (refusals s (length o) d) ≡ 0
  unfolding answer_to
  of-kind q = subst (λ (x : Option Kind). first_given x (refusals s (length o) d) ≡ 0) q accepted

  left : Left (datagram_in d).kind (store_in s).next channel (datagram_in d)
  left =
      record {
        sends = λ q. (send-ok s (length o) d (store_in s) (datagram_in d) channel (of-kind q)).below;
        receives = λ q. (receive_ok s (length o) d (store_in s) (datagram_in d) channel (of-kind q)).below;
        acknowledges = λ q. (acknowledge-ok s (length o) d (store_in s) (datagram_in d) channel (of-kind q)).below;
        times_out = λ q. (timeout-ok s (length o) d (store_in s) (datagram_in d) channel (of-kind q)).below;
        times_out_on_close = λ q.
            (timeout-on-close-ok s (length o) d (store_in s) (datagram_in d) channel q (of-kind q)).below;
        inits = λ q.
            let m = init-ok s (length o) d (store_in s) (datagram_in d) channel (of-kind q) in
            (m.number, m.version);
        tries = λ q.
            let m = (try_ok s (length o) d (store_in s) (datagram_in d) channel (of-kind q)).0 in
            (m.number, m.version);
      }

  -- what the lines of a number gave
  quiet : (n : ℕ) → Every (λ m. m ≡ 0) (given_at n (datagram_in d).kind (refusals s (length o) d))
  unfolding answer_to
  quiet n = silent n (datagram_in d).kind (refusals s (length o) d) accepted

  there : makes_end (datagram_in d).kind ≡ false → is_some (end_for (store_in s) (datagram_in d)) ≡ true
  unfolding answer_to
  there = end-there s (length o) d (store_in s) (datagram_in d) channel (datagram_in d).kind accepted

  pub ready : Ready s d
  unfolding table given_at
  ready =
      record {
        fit = not-false (is_fit s) (not-given _ 0 (quiet 1).0);
        sound = not-false (is_sound d) (not-given _ 2 (quiet 3).0);
        there = there;
        left = left;
      }

  pub output-room : output_limit ≤ length o
  unfolding table given_at
  output-room = ltb-false (length o) output_limit (not-given _ 1 (quiet 2).0)

-- THE NEXT CHANNEL NUMBER can be raised where an end is added
number_fits : (k : Option Kind) (n : ℕ) (c : Channel) (d : Datagram) → n ≤ top → Left k n c d →
    number_after (effect_for k n c d).ends n ≤ top
unfolding effect_for effect_of sends receives writes_acknowledgement acknowledges times_out makes moves number_after
number_fits none n c d h l = h
number_fits (some send) n c d h l = h
number_fits (some receive) n c d h l = h
number_fits (some write) n c d h l = h
number_fits (some acknowledge) n c d h l = h
number_fits (some time_out) n c d h l = h
number_fits (some open_init) n c d h l = omega (arith, (l.inits refl).0)
number_fits (some open_try) n c d h l = omega (arith, (l.tries refl).0)
number_fits (some open_acknowledge) n c d h l = h
number_fits (some open_confirm) n c d h l = h
number_fits (some close_init) n c d h l = h
number_fits (some close_confirm) n c d h l = h
number_fits (some time_out_on_close) n c d h l = h

-- AN END THAT CHANGES is the datagram's: its number stays, and no new end is made
abbrev Stays : Option Kind → Channel → EndEdit → Type 0
Stays k c leaves = Unit {0}
Stays k c (puts e) = (e.own ≡ c.own) × (makes_end k ≡ false)
Stays k c (adds e) = Unit {0}

end_stays : (k : Option Kind) (n : ℕ) (c : Channel) (d : Datagram) → Stays k c (effect_for k n c d).ends
unfolding effect_for effect_of sends receives writes_acknowledgement acknowledges times_out makes moves counted moved only
    ◌or◌
end_stays none n c d = tt
end_stays (some send) n c d = (refl, refl)
end_stays (some receive) n c d = (by-receive (λ e. e.own ≡ c.own) c (λ q. refl) refl, refl)
end_stays (some write) n c d = tt
end_stays (some acknowledge) n c d = (by-acknowledge (λ e. e.own ≡ c.own) c (λ q. refl) refl, refl)
end_stays (some time_out) n c d = (by-time-out (λ e. e.own ≡ c.own) c refl (λ q. refl) (λ p q. refl), refl)
end_stays (some open_init) n c d = tt
end_stays (some open_try) n c d = tt
end_stays (some open_acknowledge) n c d = (refl, refl)
end_stays (some open_confirm) n c d = (refl, refl)
end_stays (some close_init) n c d = (refl, refl)
end_stays (some close_confirm) n c d = (refl, refl)
end_stays (some time_out_on_close) n c d = (by-time-out (λ e. e.own ≡ c.own) c refl (λ q. refl) (λ p q. refl), refl)

-- so it is where that one was found
slot-stays : (k : Option Kind) (m : ℕ) (cs : List (Option Channel)) (c : Channel) → c ≡ or_none (channel_at m cs) →
    (makes_end k ≡ false → is_some (channel_at m cs) ≡ true) → (x : EndEdit) → Stays k c x →
    slot_by x (first_that (is_numbered m) cs) cs ≡ end_slot x cs
slot-stays k m cs c r there leaves h = refl
slot-stays k m cs c r there (puts e) h =
    let f = some-if (channel_at m cs) (there h.1) in
    let same : c ≡ f.0 = r ∙ ap or_none f.1 in
    let number : e.own.channel ≡ m =
    ap (λ (p : PortChannel). p.channel) h.0 ∙ ap (λ (x : Channel). x.own.channel) same ∙
    channel-number m cs f.0 f.1 in
    ap (λ (j : ℕ). first_that (is_numbered j) cs) (sym number)
slot-stays k m cs c r there (adds e) h = refl

-- WHAT IS READ: the kind, the next channel number and the end of the datagram's channel. What is left for the call is
-- left for them, and the effect that is decided on them is the call's
module _ (s d : List ℕ) {k : Option Kind} {n : ℕ} {c : Channel} (p : k ≡ kind_of (kind_in d)) (q : n ≡ (store_in s).next)
    (r : c ≡ or_none (end_for (store_in s) (datagram_in d))) where
  pub planned-left : Ready s d → Left k n c (datagram_of k d)
  unfolding datagram_in
  planned-left h = rw (p, q, r) h.left

  pub planned-number : {e : Effect} → e ≡ effect_for k n c (datagram_of k d) → n ≤ top → Ready s d →
      number_after e.ends n ≤ top
  planned-number h below o = rw h (number_fits k n c (datagram_of k d) below (planned-left o))

  pub planned-slot : (x : EndEdit) → x ≡ (effect_for k n c (datagram_of k d)).ends →
      Ready s d → {at : Found ℕ} → at ≡ first_that (is_numbered (datagram_in d).channel) (store_in s).channels →
      slot_by x at (store_in s).channels ≡ end_slot x (store_in s).channels
  unfolding datagram_in
  planned-slot x h o at =
      let stays = subst (Stays k c) (sym h) (end_stays k n c (datagram_of k d)) in
      ap (λ (f : Found ℕ). slot_by x f (store_in s).channels) at ∙
      slot-stays k (datagram_in d).channel (store_in s).channels c r (rw p o.there) x stays

  pub planned-effect : {e : Effect} → e ≡ effect_for k n c (datagram_of k d) →
      e ≡ effect_in (store_in s) (datagram_in d)
  unfolding effect_in datagram_in
  planned-effect h = rw (p, q, r) at h

-- THE ENTRIES of a fit store still fit once the times are others and the next channel number is no lower
raised_after : (x : EndEdit) (n : ℕ) → n ≤ number_after x n
unfolding number_after
raised_after leaves n = omega arith
raised_after (puts c) n = omega arith
raised_after (adds c) n = omega arith

numbers-raised : (n m : ℕ) (cs : List (Option Channel)) → n ≤ m → numbers_fit n cs ≡ true → numbers_fit m cs ≡ true
unfolding numbers_fit is_below
numbers-raised n m cs l h =
    both-and (le-leb 1 m (omega (arith, leb-true 1 n (and_both h).0)))
    (each_all (is_below m) cs
    (each_map (λ c k. lt-ltb c.own.channel m (omega (arith, ltb-true c.own.channel n k))) cs
    (all-each (is_below n) cs (and_both h).1)))

module _ (s : Store) (h : OwnHeight) (t : OwnTime) (n : ℕ) where
  abbrev numbered : Store
  numbered = with_next (with_times s h t) n

  same-end : (r : Record) (x : Option Channel) → fits_end s r x ≡ true → fits_end numbered r x ≡ true
  unfolding fits_end
  same-end r none k = k
  same-end r (some c) k = k

  same-fit : (r : Record) → record_fits s r ≡ true → record_fits numbered r ≡ true
  unfolding record_fits
  same-fit r k = both-and (and_both k).0 (same-end r (channel_at r.channel s.channels) (and_both k).1)

  pub entries-numbered : (x : EndEdit) → n ≡ number_after x s.next → entries_fit s ≡ true → entries_fit numbered ≡ true
  unfolding entries_fit
  entries-numbered x e k =
      let ends = and_both (and_both k).0 in
      both-and
      (both-and ends.0 (numbers-raised s.next n s.channels (omega (arith, e, raised_after x s.next)) ends.1))
      (each_all (record_fits numbered) s.records
      (each_map same-fit s.records (all-each (record_fits s) s.records (and_both k).1)))

-- AN END AT ITS SLOT: the ends are those that the rules place
abbrev pub with_channels : Store → List (Option Channel) → Store
with_channels s cs =
    record { height = s.height; time = s.time; next = s.next; channels = cs; records = s.records }

pub placed_end : (s : Store) (x : EndEdit) (at : Found ℕ) → at ≡ end_slot x s.channels →
    with_end s at x ≡ with_channels s (placed x s.channels)
unfolding placed
placed_end s leaves (Some j) h = refl
placed_end s leaves None h = refl
placed_end s (puts c) (Some j) h =
    ap (with_channels s) (set-replace (is_numbered c.own.channel) (some c) j s.channels (sym h))
placed_end s (puts c) None h =
    ap (with_channels s) (sym (replace-nothing (is_numbered c.own.channel) (some c) 0 s.channels (sym h)))
placed_end s (adds c) (Some j) h = ap (with_channels s) (set-insert c j s.channels (sym h))
placed_end s (adds c) None h = ap (with_channels s) (sym (insert-nothing c 0 s.channels (sym h)))

-- the slot is one of the store's
pub end_below : (bs : List ℕ) (x : EndEdit) (j : ℕ) → end_slot x (store_in bs).channels ≡ Some j → j < channel_limit
end_below bs leaves j h = let z : ◌≡◌ {A = ℕ} 0 1 = cc in absurd (omega arith)
end_below bs (puts c) j h = channel-index j bs (holds (is_numbered c.own.channel)) h
end_below bs (adds c) j h = channel-index j bs is_free h
