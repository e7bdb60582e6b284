-- What is decided on the end of the datagram's channel is the effect of the call. Assumes nothing.
use Rattle.std.proofs.Common.{arith, ◌≡◌, sym, ap, ◌∙◌, ℕ, ◌≤◌, List, length, true}
use Rattle.wire.specs.Bytes.{field}
use Rattle.slots.specs.declared.Channel.{Channel}
use Rattle.slots.specs.Limits.{top}
use Rattle.slots.specs.Table.{is_numbered, channel_at}
use Rattle.slots.specs.Layout.{records_from, store_in}
use Rattle.slots.specs.Scan.{first_that}
use Rattle.slots.specs.Fit.{is_fit}
use Rattle.slots.proofs.Laws.{fit-in-order}
use Rattle.std.proofs.Math.Option.{some}
use Rattle.datagram.specs.Kind.{Kind, kind_of, size_of}
use Rattle.datagram.specs.Datagram.{channel_from, datagram_in, kind_in}
use Rattle.datagram.proofs.KindLaws.{decoded, decodes}
use Rattle.datagram.proofs.DatagramLaws.{Sound, sound-is}
use Rattle.rules.specs.Refusals.{or_none, end_for}
use Rattle.rules.specs.Acceptance.{Effect, number_after}
use Rattle.effects.specs.Decided.{ends_by}
use Rattle.acceptance.proofs.AcceptLaws.{planned-left, planned-number, planned-slot, planned-effect}
use Rattle.acceptance.proofs.plan_for.Goals as goal

-- WHAT IS READ: the channel, its end, and the next channel number
number : (d : List ℕ) {k : Kind} {n : ℕ} → kind_of (kind_in d) ≡ some k → n ≡ channel_from (some k) d →
    n ≡ (datagram_in d).channel
unfolding datagram_in
number d p q = q ∙ ap (λ x. channel_from x d) (sym p)

-- it has the length of its kind
long : (d : List ℕ) {k : Kind} → Sound d → kind_of (kind_in d) ≡ some k → size_of (some k) ≤ length d
long d h p = rw p at h.size

end : (s d : List ℕ) {n : ℕ} {c : Channel} → n ≡ (datagram_in d).channel →
    c ≡ or_none (channel_at n (store_in s).channels) →
    c ≡ or_none (end_for (store_in s) (datagram_in d))
end s d p q = q ∙ ap (λ (n : ℕ). or_none (channel_at n (store_in s).channels)) p

next : (s : List ℕ) {n : ℕ} → n ≡ field 28 8 s → n ≡ (store_in s).next
unfolding store_in
next s p = p

room : (s : List ℕ) → is_fit s ≡ true → records_from ≤ length s
room s fit = omega (arith, (fit-in-order s fit).size)

pub kind_in-requires : goal.kind_in-requires
kind_in-requires c = omega (arith, (sound-is c.args.datagram.now c.requires.0.sound).size)

pub unwrap-kind-requires : goal.unwrap-kind-requires
unwrap-kind-requires c = decodes _ _ (rw c.kind_in.ensures at c.try_from.ensures) (sound-is c.args.datagram.now c.requires.0.sound).known

pub channel_in-number-requires : goal.channel_in-number-requires
channel_in-number-requires c =
    long _ (sound-is c.args.datagram.now c.requires.0.sound) (decoded _ _ _ (rw c.kind_in.ensures at c.try_from.ensures) c.unwrap-kind.ensures)

pub find_channel-found-requires : goal.find_channel-found-requires
find_channel-found-requires c = room c.args.store.now c.requires.0.fit

pub end_of-c-requires : goal.end_of-c-requires
end_of-c-requires c = (room c.args.store.now c.requires.0.fit, c.find_channel-found.ensures)

pub u64_at-next-requires : goal.u64_at-next-requires
u64_at-next-requires c = omega (arith, room c.args.store.now c.requires.0.fit)

pub decide-decision-requires : goal.decide-decision-requires
decide-decision-requires c =
    let s = c.args.store.now in
    let d = c.args.datagram.now in
    let sound = sound-is d c.requires.0.sound in
    let kind = decoded _ _ _ (rw c.kind_in.ensures at c.try_from.ensures) c.unwrap-kind.ensures in (
      long d sound kind,
      planned-left s d (sym kind) (next s c.u64_at-next.ensures)
          (end s d (number d kind c.channel_in-number.ensures) c.end_of-c.ensures) c.requires.0,
    )

pub context_in-requires : goal.context_in-requires
context_in-requires c = omega (arith, (sound-is c.args.datagram.now c.requires.0.sound).size)

pub number_after-requires : goal.number_after-requires
number_after-requires c =
    let s = c.args.store.now in
    let d = c.args.datagram.now in
    let kind = decoded _ _ _ (rw c.kind_in.ensures at c.try_from.ensures) c.unwrap-kind.ensures in
    let below : c.u64_at-next.result ≤ top = omega arith in
    planned-number s d (sym kind) (next s c.u64_at-next.ensures)
    (end s d (number d kind c.channel_in-number.ensures) c.end_of-c.ensures) c.decide-decision.ensures below c.requires.0

pub end_slot-requires : goal.end_slot-requires
end_slot-requires c = room c.args.store.now c.requires.0.fit

pub returns : goal.returns
unfolding datagram_in
returns c =
    let s = c.args.store.now in
    let d = c.args.datagram.now in
    let kind = decoded _ _ _ (rw c.kind_in.ensures at c.try_from.ensures) c.unwrap-kind.ensures in
    let channel = number d kind c.channel_in-number.ensures in
    let after = next s c.u64_at-next.ensures in
    let about = end s d channel c.end_of-c.ensures in
    let ends = ap (λ (x : Effect). x.ends) c.decide-decision.ensures in
    let found =
    c.find_channel-found.ensures ∙ ap (λ (n : ℕ). first_that (is_numbered n) (store_in s).channels) channel in
    record {
      context = c.context_in.ensures;
      effect = planned-effect s d (sym kind) after about c.decide-decision.ensures;
      slots =
          record {
            end =
                c.end_slot.ensures ∙ planned-slot s d (sym kind) after about (ends_by c.decide-decision.result.ends) ends
                c.requires.0 found;
            next = c.number_after.ensures ∙ ap (number_after (ends_by c.decide-decision.result.ends)) after;
            edit = c.slot_of.ensures;
            used = c.requires.1;
          };
    }
