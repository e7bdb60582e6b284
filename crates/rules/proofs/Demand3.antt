-- Demand 3, for every pair of made stores and every list of calls. Assumes nothing.
use Rattle.wire.proofs.Prelude.{◌≡◌, refl, sym, ap, ◌∙◌, Bool, List, [], ◌++◌, Option, ℕ, eqb, length, eqb-true}
use Rattle.wire.specs.Names.{◌and◌, ◌or◌, pick, little, Bytes}
use Rattle.wire.proofs.Laws.{cases}
use Rattle.slots.specs.declared.Channel.{Channel}
use Rattle.slots.specs.Names.{store_in, allows_timeouts}
use Rattle.datagram.specs.Names.{only, Kind, Datagram, framed, delivered_kind, lapsed_kind, made_kind}
use Rattle.rules.specs.Names.{new_end, makes_end, or_none, refusals, sent_packet, makes, moves, effect_of, effect_for}
use Rattle.rules.specs.Names.{Told, answer_to, effect_in, called, Call, datagram_got, Met, end_of, Recorded, Answered}
use Rattle.rules.specs.Names.{Demand3Holds, comes_late}
use Rattle.rules.proofs.RefusalLaws.{first-given-zero}
use Rattle.rules.proofs.KindLaws.{of-kinds, moves_end, packets-record}
use Rattle.rules.proofs.Acted.{accepted-store, accepted-size, accepted-record, accepted-rest, refused-call}
use Rattle.rules.proofs.Acted.{told_as, acted, acted-sent, acted-carried}
use Rattle.rules.proofs.History.{World, got-bytes}
use Rattle.rules.proofs.Sums.{sums}
use Rattle.rules.proofs.Once.{finished-once}
use Rattle.rules.proofs.Ends.{ends-stay, numbers-rise}
use Rattle.rules.proofs.Tries.{tries-answer}
use Rattle.rules.proofs.Closes.{closes-answer}
use Rattle.rules.proofs.Pairing.{stay-paired, opens-once}
use Rattle.rules.proofs.OrderingLaws.{lapse-late}
use Rattle.rules.proofs.Delivery.{delivered-once, in-order}
use Rattle.rules.proofs.Missing.{rising, missing}
use Rattle.rules.proofs.Finishing.{finished-in-order, finished-counted}
use Rattle.rules.proofs.Truth.{as-sent}
use Rattle.rules.proofs.Timeouts.{not-both}

-- the number is the table's, whichever way the call went
number : (bs o b : List ℕ) → (called bs o b).told.number ≡ answer_to bs o b
unfolding called
number bs o b = cases (eqb (answer_to bs o b) 0) (λ e. let q = eqb-true (answer_to bs o b) 0 e in cc) (λ e. cc)

recorded : (c : Call) (m : Met c) → Bytes c.store → Bytes c.datagram → c.told.number ≡ 0 → Recorded c
unfolding effect_in effect_for effect_of makes moves new_end only ◌or◌ ◌and◌
recorded c m p q t =
    let a = acted c m p q t in
    let d : Datagram = datagram_got c in
    let n : ℕ = (store_in c.store).next in
    let e = accepted-record c m t in
    let told : Bool → ℕ = λ l. pick l lapsed_kind delivered_kind in
    record {
      kind = λ k h o. a.kind ∙ ap (told_as a.step.channel d) h ∙ packets-record _ k o;
      received = λ k. a.kind ∙ ap (told_as a.step.channel d) k ∙
          ap told (lapse-late a.step.channel (comes_late d) ∙
          ap (λ (e : Channel). allows_timeouts e and comes_late d)
          (sym (ap or_none (a.step.found (ap makes_end k)))));
      timed_out = λ k. a.kind ∙ ap (told_as a.step.channel d) k;
      sent = λ k. acted-sent a k ∙ ap (λ (e : Channel). sent_packet e d)
          (sym (ap or_none (a.step.found (ap makes_end k))));
      carried = acted-carried a;
      written = λ k. e ∙ ap (λ (x : Option Kind). (effect_for x n (end_of c) d).emitted) k;
      made = λ k. e ∙ of-kinds (λ x. (effect_for x n (end_of c) d).emitted ≡
          framed made_kind (little 2 d.context.port ++ little 4 n)) makes_end refl d.kind (refl, (refl, tt)) k;
      nothing = λ k. e ∙ of-kinds (λ x. (effect_for x n (end_of c) d).emitted ≡ []) moves_end refl d.kind
          (refl, (refl, (refl, (refl, tt)))) k;
    }

answered : (c : Call) → Met c → Bytes c.store → Bytes c.datagram → Answered c
unfolding answer_to
answered c m p q =
    let n : c.told.number ≡ answer_to c.store c.output c.datagram =
    ap (λ (t : Told). t.number) m.told ∙ number c.store c.output c.datagram in
    let l = first-given-zero (datagram_got c).kind (refusals c.store (length c.output) c.datagram) in
    record {
      number = n;
      accepts = (λ t. l.0 (sym n ∙ t), λ q. n ∙ l.1 q);
      store = accepted-store c m;
      emits = accepted-record c m;
      size = λ t. accepted-size c m t ∙ ap length (sym (accepted-record c m t));
      rest = accepted-rest c m;
      recorded = recorded c m p q;
      refuses = refused-call c m;
    }

pub demand3 : Demand3Holds
demand3 start cs made run =
    let w : World = record { start = start; made = made; calls = cs; run = run } in
    record {
      answered = λ i c h. answered c (run.met i c h) (got-bytes w i c h) (run.bytes i c h);
      sums = sums w;
      finished_once = finished-once w;
      in_order = in-order w;
      rising = rising w;
      missing = missing w;
      finished_in_order = finished-in-order w;
      finished_counted = finished-counted w;
      ends_stay = ends-stay w;
      numbers_rise = numbers-rise w;
      tries_answer = tries-answer w;
      closes_answer = closes-answer w;
      stay_paired = stay-paired w;
      opens_once = opens-once w;
      delivered_once = delivered-once w;
      as_sent = λ p h. as-sent w h p;
      not_both = λ p h. not-both w h p;
    }
