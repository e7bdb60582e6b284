-- The times, the next channel number, the end and the packet record, one after another: the bytes hold the store that
-- each leaves. Assumes nothing.
use Rattle.std.proofs.Common.{arith, rules, ◌≡◌, sym, ap, subst, ◌∙◌, ℕ, ◌^◌, ◌<◌, List, get_or, true, Fits, w8}
use Rattle.wire.proofs.Laws.{and_both}
use Rattle.wire.proofs.PartLaws.{bytes-array}
use Rattle.slots.specs.Layout.{Store, bytes_of, store_in}
use Rattle.slots.specs.Scan.{used_slots}
use Rattle.slots.specs.Effect.{Exact, with_times, with_next}
use Rattle.slots.specs.Fit.{size_fits, is_fit, store_fits, entries_fit}
use Rattle.slots.proofs.Laws.{Ordered, fit-store, fit-fields, fit-ordered}
use Rattle.slots.proofs.HeldLaws.{Held, fit-exact, held-store, held-exact, held-times, held_next}
use Rattle.rules.specs.Acceptance.{placed, applied}
use Rattle.records.specs.Edited.{edit_by, slot_of, with_edit}
use Rattle.effects.specs.Decided.{ends_by}
use Rattle.acceptance.specs.declared.Plan.{Plan}
use Rattle.acceptance.specs.Planned.{Placed, with_end}
use Rattle.acceptance.proofs.AcceptLaws.{with_channels, placed_end, end_below, entries-numbered}
use Rattle.acceptance.proofs.carry_out.Goals as goal

-- THE STORE once the times are set, once the next channel number is, and once the end is
abbrev timed : List ℕ → Plan → Store
timed bs p = with_times (store_in bs) p.context.height p.context.time

abbrev numbered : List ℕ → Plan → Store
numbered bs p = with_next (timed bs p) p.next

-- the ends are those that the rules place
abbrev placed_store : List ℕ → Plan → (next : ℕ) → Store
placed_store bs p n = with_channels (with_next (timed bs p) n) (placed (ends_by p.decision.ends) (store_in bs).channels)

-- a fit store, and numbers that fit their fields
record Fitting (bs : List ℕ) (p : Plan) : Type 0 where
  pub fit : is_fit bs ≡ true
  pub bytes : (k : ℕ) → Fits w8 (get_or bs k 0)
  pub height : p.context.height.0 < 256 ^ 8
  pub time : p.context.time.0 < 256 ^ 8
  pub next : p.next < 256 ^ 8

timed-held : {bs t : List ℕ} {p : Plan} → Fitting bs p → t ≡ bytes_of (timed bs p) → Held (timed bs p) t
timed-held {bs} {t} {p} f e =
    let held : Held (store_in bs) bs =
    record { bytes = sym (fit-exact bs f.fit).laid; fields = fit-fields bs (bytes-array bs f.bytes) f.fit } in
    held-times held t p.context.height p.context.time f.height f.time e

numbered-held : {bs t n : List ℕ} {p : Plan} → Fitting bs p → t ≡ bytes_of (timed bs p) →
    n ≡ bytes_of (with_next (store_in t) p.next) → Held (numbered bs p) n
numbered-held {n = n} {p = p} f e k = held_next (timed-held f e) n p.next f.next k

entries : (bs : List ℕ) → is_fit bs ≡ true → entries_fit (store_in bs) ≡ true
unfolding store_fits
entries bs h = (and_both (fit-store bs h)).0

left : (bs t : List ℕ) {n : List ℕ} (p : Plan) → Placed (store_in bs) p → Held (numbered bs p) n →
    store_in t ≡ with_end (store_in n) p.at (ends_by p.decision.ends) → store_in t ≡ placed_store bs p p.next
left bs t p k h e =
    e ∙ ap (λ (s : Store). with_end s p.at (ends_by p.decision.ends)) (held-store h) ∙
    placed_end (numbered bs p) (ends_by p.decision.ends) p.at k.end

pub set_times-requires : goal.set_times-requires
set_times-requires c = fit-exact c.args.store.now c.requires.0

pub set_next-requires : goal.set_next-requires
set_next-requires c =
    let f : Fitting c.args.store.now c.args.p =
    record {
      fit = c.requires.0;
      bytes = search rules;
      height = omega arith;
      time = omega arith;
      next = omega arith;
    } in
    held-exact (timed-held f c.set_times.ensures)

pub put_end-requires : goal.put_end-requires
put_end-requires c =
    let bs = c.args.store.now in
    let f : Fitting bs c.args.p =
    record {
      fit = c.requires.0;
      bytes = search rules;
      height = omega arith;
      time = omega arith;
      next = omega arith;
    } in
    let n = numbered-held f c.set_times.ensures c.set_next.ensures in (
      held-exact n,
      ap entries_fit (held-store n) ∙ entries-numbered (store_in bs) c.args.p.context.height c.args.p.context.time
          c.args.p.next (ends_by c.args.p.decision.ends) c.requires.1.next (entries bs c.requires.0),
      λ j told. end_below bs (ends_by c.args.p.decision.ends) j (sym c.requires.1.end ∙ told),
    )

pub edit_records-requires : goal.edit_records-requires
edit_records-requires c =
    let bs = c.args.store.now in
    let p = c.args.p in
    let f : Fitting bs p =
    record {
      fit = c.requires.0;
      bytes = search rules;
      height = omega arith;
      time = omega arith;
      next = omega arith;
    } in
    let n = numbered-held f c.set_times.ensures c.set_next.ensures in
    let e = left bs c.put_end.new.store p c.requires.1 n c.put_end.ensures.told in
    let exact : Exact c.put_end.new.store =
    record {
      size = ap (λ (k : ℕ). size_fits k) c.put_end.auto.store ∙ (held-exact n).size;
      laid = ap bytes_of c.put_end.ensures.told ∙ sym c.put_end.ensures.bytes;
    } in (
      exact,
      subst (λ (s : Store). Ordered s.records) (sym e) (fit-ordered (store_in bs) (fit-store bs c.requires.0)),
      c.requires.1.used ∙ ap (λ (s : Store). used_slots s.records) (sym e),
      c.requires.1.edit ∙ ap (λ (s : Store). slot_of (edit_by p.decision.edit) s.records) (sym e),
    )

pub returns : goal.returns
unfolding applied
returns c =
    let bs = c.args.store.now in
    let p = c.args.p in
    let f : Fitting bs p =
    record {
      fit = c.requires.0;
      bytes = search rules;
      height = omega arith;
      time = omega arith;
      next = omega arith;
    } in
    let n = numbered-held f c.set_times.ensures c.set_next.ensures in
    let e = left bs c.put_end.new.store p c.requires.1 n c.put_end.ensures.told in
    let edit = edit_by p.decision.edit in
    c.edit_records.ensures ∙ ap (λ (s : Store). bytes_of (with_edit s edit)) e ∙
    ap (λ (k : ℕ). bytes_of (with_edit (placed_store bs p k) edit)) c.requires.1.next
