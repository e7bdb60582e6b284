-- Laws of the pass over the packet records, run by run: what a test that fails tells of the whole, and what holds after
-- a run that passes. Assumes nothing.
use mathlib.Core.Path.{◌≡◌, refl, sym, ap, subst, ◌∙◌}
use mathlib.Core.Bool.{Bool, true, false}
use mathlib.Core.List.{List}
use mathlib.Core.Option.{some}
use mathlib.Core.Logic.{inl, inr}
use Prim.Native.Nat.{ℕ, ◌+◌, ◌*◌, ◌-◌, ◌≤◌, ◌<◌}
use native.Mathlib.Omega.{arith}
use lib.Dec.{ltb, eqb}
use lib.ListN.{length}
use borrow.Author.Tests.{eqb-true, eqb-false, ltb-true, ltb-false, leb-true, eq-eqb, ne_eqb, le-leb}
use Rattle.wire.specs.Choice.{◌or◌}
use Rattle.wire.specs.Bytes.{Bytes, are_zero, part}
use Rattle.wire.proofs.ChoiceLaws.{cases, clash, and_both, both-and, some_is}
use Rattle.slots.specs.declared.Channel.{Channel}
use Rattle.std.specs.Prelude.{Some, None}
use Rattle.slots.specs.Table.{is_numbered, is_before, channel_at}
use Rattle.slots.specs.Layout.{header_size, slot_size, records_from, size_for, channel_in, record_bytes, record_in, store_in}
use Rattle.slots.specs.Scan.{slot_at, first_that}
use Rattle.slots.proofs.ScanLaws.{channel-found, find-nothing}
use Rattle.slots.proofs.KeyLaws.{Before, is-before, before-is}
use Rattle.runs.specs.Each.{each}
use Rattle.runs.specs.Run.{record_at, key_at, zeros_at, Ahead, plain_size, is_plain, RunEnd, Passed, has_companion}
use Rattle.runs.specs.Run.{fits_beside}
use Rattle.runs.proofs.EachLaws.{each_all, each_at}
use Rattle.runs.proofs.KindLaws.{fits-plain}
use Rattle.front.specs.EverySlot.{is_exact}
use Rattle.fit.specs.Pass.{records_fit, is_ahead, starts_run, used_if}
use Rattle.front.proofs.ExactLaws.{record-exact-at}
use Rattle.front.proofs.IndexLaws.{not_none}
use Rattle.fit.proofs.FittingLaws.{Fitting, Taken}
use Rattle.fit.proofs.WholeLaws.{order, fits-before, all_fit}
use Rattle.fit.proofs.AheadLaws.{is-ahead, ahead-is, ahead_before, ahead-onward, ahead-alike, alike-ahead}
use Rattle.fit.proofs.ZeroLaws.{zero-slot, slots-zero, sequence-taken}

-- a run with the zero bytes of its kind
abbrev OwnRunEnd : List ℕ → (n i e : ℕ) → Type 0
OwnRunEnd bs n i e = RunEnd bs n (plain_size (key_at bs i).kind) i e

-- WHAT HOLDS after i slots, the last run of which starts at p, on the channel end of index j
pub record Checked (bs : List ℕ) (n i j p : ℕ) : Type 0 where
  pub within : i ≤ n
  pub low : p ≤ i
  pub near : 0 < i → p < i
  pub used : (k : ℕ) → k < i → Taken bs k
  pub fitting : (k : ℕ) → k < i → Fitting bs k
  pub ordered : (m k : ℕ) → m < k → k < i → is_before (key_at bs m) (key_at bs k) ≡ true
  pub before : (m : ℕ) → m < p → Ahead (key_at bs m) (key_at bs p)
  pub last : 0 < i → OwnRunEnd bs n p i
  pub end : p < i → first_that (is_numbered (key_at bs p).channel) (store_in bs).channels ≡ Some j

pub checked-none : (bs : List ℕ) (n : ℕ) → Checked bs n 0 0 0
checked-none bs n =
    record {
      within = omega arith;
      low = omega arith;
      near = λ l. absurd (omega arith);
      used = λ k l. absurd (omega arith);
      fitting = λ k l. absurd (omega arith);
      ordered = λ m k l h. absurd (omega arith);
      before = λ m l. absurd (omega arith);
      last = λ l. absurd (omega arith);
      end = λ l. absurd (omega arith);
    }

module _ (bs : List ℕ) (bytes : Bytes bs) (n : ℕ) (size : length bs ≡ size_for n) (i j p : ℕ) (g : Checked bs n i j p) where
  -- ALL IS FREE BEHIND
  checked-free : ((k : ℕ) → i ≤ k → k < n → are_zero (slot_at records_from bs k) ≡ true) →
      Some i ≡ used_if (records_fit bs n) bs
  checked-free free =
      let h = all_fit bs n size i g.within g.used g.fitting g.ordered free in
      sym (rw (h.0, h.1))

  pub checked-all : n ≤ i → Some i ≡ used_if (records_fit bs n) bs
  checked-all l = checked-free (λ k a b. absurd (omega arith))

  pub checked-rest : are_zero (part (records_from + slot_size * i) (slot_size * (n - i)) bs) ≡ true →
      Some i ≡ used_if (records_fit bs n) bs
  checked-rest h = checked-free (λ k l m. zero-slot bs n i k l m h)

  -- A TEST FAILS
  unfit : (records_fit bs n ≡ true → ⊥) → None ≡ used_if (records_fit bs n) bs
  unfit h = cases (records_fit bs n) (λ e. absurd (h e)) (λ e. sym (rw e))

  module _ (more : i < n) where
    pub unfit-rest : are_zero (slot_at records_from bs i) ≡ true →
        are_zero (part (records_from + slot_size * i) (slot_size * (n - i)) bs) ≡ false →
        None ≡ used_if (records_fit bs n) bs
    unfit-rest z h =
        unfit (λ w.
        clash (slots-zero bs (n - i) i (λ k l m.
        cases (are_zero (slot_at records_from bs k)) (λ e. e)
        (λ e. cases (eqb k i) (λ q. ap (λ (x : ℕ). are_zero (slot_at records_from bs x)) (eqb-true k i q) ∙ z)
        (λ q. clash z (order bs n size w i k (omega (arith, eqb-false k i q)) (omega arith) e).0))))
        h)

    -- a record that is laid out exactly
    zeros-exact : (k : ℕ) → k < n → is_exact record_bytes record_in (slot_at records_from bs k) ≡ true → zeros_at bs k ≡ 0
    zeros-exact k l h =
        eqb-true (zeros_at bs k) 0
        (sym (record-exact-at (records_from + slot_size * k) bs bytes (omega arith)) ∙ h)

    -- what goes on with a run that ended is not fit
    stopped : (q e : ℕ) → OwnRunEnd bs n q e → e < n → Fitting bs e → zeros_at bs q ≡ 0 →
        (key_at bs e).kind ≡ (key_at bs q).kind → (key_at bs e).channel ≡ (key_at bs q).channel →
        (q < e → (key_at bs (e - 1)).sequence < (key_at bs e).sequence) → ⊥
    stopped q e stop l f z k c r =
        stop.stopped l (zeros-exact e l f.exact ∙ sym z) k c (leb-true 1 (key_at bs e).sequence f.sequence) r
        (ap (λ (x : ℕ). is_plain bs (plain_size x) e) (sym k) ∙
        fits-plain bs bytes (has_companion bs e) e f.end f.fits)

    -- behind the last run one of another kind or channel
    goes_on : records_fit bs n ≡ true → Taken bs i → 0 < i → Ahead (key_at bs p) (key_at bs i)
    goes_on w t l =
        let last = g.last l in
        let low = g.near l in
        let k = last.run.kinds (i - 1) (omega arith) (omega arith) in
        let c = last.run.channels (i - 1) (omega arith) (omega arith) in
        step last low k c
        (is-before (key_at bs (i - 1)) (key_at bs i) (order bs n size w (i - 1) i (omega arith) more t).1)
      where
        step : OwnRunEnd bs n p i → p < i → (key_at bs (i - 1)).kind ≡ (key_at bs p).kind →
            (key_at bs (i - 1)).channel ≡ (key_at bs p).channel → Before (key_at bs (i - 1)) (key_at bs i) →
            Ahead (key_at bs p) (key_at bs i)
        step last low k c (inl q) = inl (omega arith)
        step last low k c (inr (d, inl q)) = inr (sym c ∙ d, omega arith)
        step last low k c (inr (d, inr (f, q))) =
            let first = zeros-exact p (omega arith) (g.fitting p low).exact in
            absurd
            (stopped p i last more (fits-before bs n size w i more t) first (sym f ∙ k) (sym d ∙ c) (λ o. q))

    pub unfit-start : Taken bs i → starts_run bs p i ≡ false → None ≡ used_if (records_fit bs n) bs
    unfolding ◌or◌
    unfit-start t h =
        unfit (λ w.
        let f = fits-before bs n size w i more t in
        let first : (eqb p i or is_ahead (key_at bs p) (key_at bs i)) ≡ true =
        cases (eqb p i) (λ e. rw e)
        (λ e. let low = g.low in
        rw (e, ahead-is (key_at bs p) (key_at bs i) (goes_on w t (omega (arith, eqb-false p i e))))) in
        clash (both-and (eq-eqb (zeros_at bs i) 0 (zeros-exact i more f.exact)) first) h)

    pub unfit-end : Taken bs i → first_that (is_numbered (key_at bs i).channel) (store_in bs).channels ≡ None →
        None ≡ used_if (records_fit bs n) bs
    unfit-end t h =
        unfit (λ w.
        let f = fits-before bs n size w i more t in
        not_none (sym f.found ∙ find-nothing (is_numbered (key_at bs i).channel) 0 (store_in bs).channels h))

    -- A RUN STARTS at i
    module _ (starts : starts_run bs p i ≡ true) where
      zeros : zeros_at bs i ≡ 0
      zeros = eqb-true (zeros_at bs i) 0 (and_both starts).0

      follows : p < i → Ahead (key_at bs p) (key_at bs i)
      unfolding ◌or◌
      follows l =
          let e = ne_eqb p i (λ q. omega arith) in
          is-ahead (key_at bs p) (key_at bs i) (rw e at (and_both starts).1)

      pub passed : Passed bs p i
      passed =
          record {
            low = g.low;
            near = g.near;
            run = λ l. (g.last (omega arith)).run;
            before = g.before;
            follows = follows;
          }

      ahead-all : (m : ℕ) → m < i → Ahead (key_at bs m) (key_at bs i)
      ahead-all m l =
          let last = (g.last (omega arith)).run in
          let low = follows (g.near (omega arith)) in
          cases (ltb m p)
          (λ e. ahead-onward (key_at bs m) (key_at bs p) (key_at bs i) (g.before m (ltb-true m p e)) low)
          (λ e. let a = ltb-false m p e in
          ahead-alike (key_at bs m) (key_at bs p) (key_at bs i) (last.channels m a l) (last.kinds m a l) low)

      -- it has no record where not even the first one passes
      pub unfit-first : Taken bs i → (e : ℕ) → OwnRunEnd bs n i e → e ≡ i → None ≡ used_if (records_fit bs n) bs
      unfit-first t e stop same =
          unfit (λ w.
          stopped i i (subst (OwnRunEnd bs n i) same stop) more (fits-before bs n size w i more t) zeros refl refl
          (λ l. absurd (omega arith)))

      -- on its channel end, up to e
      module _ (end : ℕ) (found : first_that (is_numbered (key_at bs i).channel) (store_in bs).channels ≡ Some end)
          (e : ℕ) (stop : OwnRunEnd bs n i e) (any : i < e) where
        abbrev c : Channel
        c = channel_in (slot_at header_size bs end)

        abbrev test : ℕ → Bool
        test k = fits_beside (has_companion bs k) (record_at bs k) c

        taken-run : (k : ℕ) → i ≤ k → k < e → Taken bs k
        taken-run k l m = sequence-taken bs bytes k (stop.run.first k l m)

        found-run : (k : ℕ) → i ≤ k → k < e → channel_at (key_at bs k).channel (store_in bs).channels ≡ some c
        found-run k l m =
            ap (λ (x : ℕ). channel_at x (store_in bs).channels) (stop.run.channels k l m) ∙
            channel-found (is_numbered (key_at bs i).channel) end bs found

        pub unfit-run : each test i (e - i) ≡ false → None ≡ used_if (records_fit bs n) bs
        unfit-run h =
            let high = stop.high in
            unfit (λ w.
            clash (each_all test i (e - i) (λ k l m.
            let in-run : k < e = omega arith in
            let f = fits-before bs n size w k (omega arith) (taken-run k l in-run) in
            let same : f.end ≡ c = some_is (sym f.found ∙ found-run k l in-run) in
            ap (fits_beside (has_companion bs k) (record_at bs k)) (sym same) ∙ f.fits)) h)

        fitting-run : each test i (e - i) ≡ true → (k : ℕ) → i ≤ k → k < e → Fitting bs k
        fitting-run h k l m =
            let high = stop.high in
            let exact = stop.run.zeros k l m ∙ zeros in
            record {
              exact =
                  record-exact-at (records_from + slot_size * k) bs bytes (omega arith) ∙ eq-eqb (zeros_at bs k) 0 exact;
              sequence = le-leb 1 (key_at bs k).sequence (stop.run.first k l m);
              end = c;
              found = found-run k l m;
              fits = each_at test i (e - i) h k l (omega arith);
            }

        ordered-run : (m k : ℕ) → m < k → i ≤ k → k < e → is_before (key_at bs m) (key_at bs k) ≡ true
        ordered-run m k l a b =
            let run = stop.run in
            let kind = run.kinds k a b in
            let channel = run.channels k a b in
            cases (ltb m i)
            (λ f.
            ahead_before (key_at bs m) (key_at bs k)
            (alike-ahead (key_at bs m) (key_at bs i) (key_at bs k) (sym channel) (sym kind)
            (ahead-all m (ltb-true m i f))))
            (λ f. let from = ltb-false m i f in
            before-is (key_at bs m) (key_at bs k)
            (inr (
              run.channels m from (omega arith) ∙ sym channel,
              inr (run.kinds m from (omega arith) ∙ sym kind, run.rises m k from l b),
            )))

        pub checked-run : each test i (e - i) ≡ true → Checked bs n e end i
        checked-run h =
            record {
              within = stop.high;
              low = omega arith;
              near = λ l. any;
              used = λ k l.
                  cases (ltb k i) (λ f. g.used k (ltb-true k i f)) (λ f. taken-run k (ltb-false k i f) l);
              fitting = λ k l.
                  cases (ltb k i) (λ f. g.fitting k (ltb-true k i f)) (λ f. fitting-run h k (ltb-false k i f) l);
              ordered = λ m k a l.
                  cases (ltb k i) (λ f. g.ordered m k a (ltb-true k i f))
                  (λ f. ordered-run m k a (ltb-false k i f) l);
              before = ahead-all;
              last = λ l. stop;
              end = λ l. found;
            }
