-- Tables of slots: the two tables of a store, known above by their laws. A slot is free (none) or holds an entry.
use Rattle.std.specs.Prelude.{Bool, true, false, not, List, [], ◌∷◌, ◌++◌, ℕ, suc, eqb, ltb}
use Rattle.std.proofs.Math.Option.{Option, none, some}
use Rattle.wire.specs.Choice.{◌and◌, pick, is_some}
use Rattle.slots.specs.declared.PortChannel.{PortChannel}
use Rattle.slots.specs.declared.Channel.{Channel}
use Rattle.slots.specs.declared.Record.{Record}
pub use Rattle.slots.specs.declared.Key.{Key}
use Rattle.slots.specs.Codes.{commitment_kind, receipt_kind, acknowledgement_kind, timeout_receipt_kind}

-- the first entry that passes a test
unfoldable pub find : {A : Type 0} → (A → Bool) → List (Option A) → Option A
find t [] = none
find t (none ∷ xs) = find t xs
find t (some x ∷ xs) = pick (t x) (some x) (find t xs)

-- the first entry that passes a test makes way for another slot
unfoldable pub replace : {A : Type 0} → (A → Bool) → Option A → List (Option A) → List (Option A)
replace t y [] = []
replace t y (none ∷ xs) = none ∷ replace t y xs
replace t y (some x ∷ xs) = pick (t x) (y ∷ xs) (some x ∷ replace t y xs)

-- an entry takes the first slot; the entries up to the first free slot move up by one
unfoldable pub push : {A : Type 0} → A → List (Option A) → List (Option A)
push y [] = []
push y (none ∷ xs) = some y ∷ xs
push y (some x ∷ xs) = some y ∷ push x xs

-- an entry takes the first slot that is free or holds an entry that passes a test; that one moves up, with those behind
-- it. A full table has no room for it and would lose its last entry, so a call asks for room first
unfoldable pub place : {A : Type 0} → (A → Bool) → A → List (Option A) → List (Option A)
place t y [] = []
place t y (none ∷ xs) = some y ∷ xs
place t y (some x ∷ xs) = pick (t x) (push y (some x ∷ xs)) (some x ∷ place t y xs)

-- the first entry that passes a test is taken out; the slots behind it move down by one, and the last one becomes free
unfoldable pub take_out : {A : Type 0} → (A → Bool) → List (Option A) → List (Option A)
take_out t [] = []
take_out t (none ∷ xs) = none ∷ take_out t xs
take_out t (some x ∷ xs) = pick (t x) (xs ++ (none ∷ [])) (some x ∷ take_out t xs)

unfoldable pub has_free : {A : Type 0} → List (Option A) → Bool
has_free [] = false
has_free (none ∷ xs) = true
has_free (some x ∷ xs) = has_free xs

-- how many slots are free
unfoldable pub free_slots : {A : Type 0} → List (Option A) → ℕ
free_slots [] = 0
free_slots (none ∷ xs) = suc (free_slots xs)
free_slots (some x ∷ xs) = free_slots xs

-- how many entries pass a test
unfoldable pub count : {A : Type 0} → (A → Bool) → List (Option A) → ℕ
count t [] = 0
count t (none ∷ xs) = count t xs
count t (some x ∷ xs) = pick (t x) (suc (count t xs)) (count t xs)

-- each entry passes a test
unfoldable pub all : {A : Type 0} → (A → Bool) → List (Option A) → Bool
all t [] = true
all t (none ∷ xs) = all t xs
all t (some x ∷ xs) = t x and all t xs

-- no entry is followed by one of the same name
unfoldable pub distinct : {A : Type 0} → (A → A → Bool) → List (Option A) → Bool
distinct u [] = true
distinct u (none ∷ xs) = distinct u xs
distinct u (some x ∷ xs) = not (is_some (find (u x) xs)) and distinct u xs

-- IN ORDER: entries rise strictly, and the free slots stand behind them. So each slot may lead the next one
unfoldable pub may_lead : {A : Type 0} → (A → A → Bool) → Option A → List (Option A) → Bool
may_lead u x [] = true
may_lead u x (none ∷ ys) = true
may_lead u none (some y ∷ ys) = false
may_lead u (some x) (some y ∷ ys) = u x y

unfoldable pub in_order : {A : Type 0} → (A → A → Bool) → List (Option A) → Bool
in_order u [] = true
in_order u (x ∷ xs) = may_lead u x xs and in_order u xs

-- CHANNELS, by number
unfoldable pub is_numbered : (channel : ℕ) → Channel → Bool
is_numbered n c = eqb c.own.channel n

abbrev pub same_number : Channel → Channel → Bool
same_number c = is_numbered c.own.channel

abbrev pub channel_at : (channel : ℕ) → List (Option Channel) → Option Channel
channel_at n cs = find (is_numbered n) cs

-- the end of this number becomes this one
abbrev pub with_channel : Channel → List (Option Channel) → List (Option Channel)
with_channel c cs = replace (is_numbered c.own.channel) (some c) cs

-- a new end takes the free channel record of lowest index: it is placed before none
abbrev pub insert_channel : Channel → List (Option Channel) → List (Option Channel)
insert_channel c cs = place (λ x. false) c cs

unfoldable pub same_port_channel : PortChannel → PortChannel → Bool
same_port_channel a b = eqb a.port b.port and eqb a.channel b.channel

-- PACKET RECORDS, by kind, channel and sequence
abbrev pub commitment_key : (channel sequence : ℕ) → Key
commitment_key c n = record { kind = commitment_kind; channel = c; sequence = n }

abbrev pub receipt_key : (channel sequence : ℕ) → Key
receipt_key c n = record { kind = receipt_kind; channel = c; sequence = n }

abbrev pub acknowledgement_key : (channel sequence : ℕ) → Key
acknowledgement_key c n = record { kind = acknowledgement_kind; channel = c; sequence = n }

abbrev pub timeout_receipt_key : (channel sequence : ℕ) → Key
timeout_receipt_key c n = record { kind = timeout_receipt_kind; channel = c; sequence = n }

abbrev pub key_of : Record → Key
key_of r = record { kind = r.kind; channel = r.channel; sequence = r.sequence }

unfoldable pub has_key : Key → Record → Bool
has_key k r = eqb r.kind k.kind and eqb r.channel k.channel and eqb r.sequence k.sequence

abbrev pub same_key : Record → Record → Bool
same_key r = has_key (key_of r)

abbrev pub lookup : Key → List (Option Record) → Option Record
lookup k rs = find (has_key k) rs

-- their order: by channel, then kind, then sequence
unfoldable pub is_before : Key → Key → Bool
is_before a b =
    pick (eqb a.channel b.channel)
    (pick (eqb a.kind b.kind) (ltb a.sequence b.sequence) (ltb a.kind b.kind))
    (ltb a.channel b.channel)

abbrev pub precedes : Record → Record → Bool
precedes r x = is_before (key_of r) (key_of x)

-- a record takes its place in this order, where the first one stands that does not precede it; one that becomes free
-- leaves no gap
abbrev pub insert : Record → List (Option Record) → List (Option Record)
insert r rs = place (λ x. not (precedes x r)) r rs

abbrev pub remove : Key → List (Option Record) → List (Option Record)
remove k rs = take_out (has_key k) rs

-- commitments still in the table, of one channel
unfoldable pub is_commitment_on : (channel : ℕ) → Record → Bool
is_commitment_on c r = eqb r.kind commitment_kind and eqb r.channel c

abbrev pub commitments : (channel : ℕ) → List (Option Record) → ℕ
commitments c rs = count (is_commitment_on c) rs
