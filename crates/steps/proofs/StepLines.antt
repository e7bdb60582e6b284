-- The lines of the steps of the opening handshake in the table. Assumes nothing.
use Rattle.std.specs.Prelude.{is_some, Option as Found}
use Rattle.std.proofs.Math.Bool.{not-not}
use Rattle.std.proofs.Common.{◌≡◌, ℕ, suc, arith, ap, sym, ◌∙◌, refl, Bool, not, eqb, List, [], ◌∷◌}
use Rattle.std.proofs.Math.Option.{Option, none, some}
use Rattle.wire.specs.Choice.{◌or◌, pick}
use Rattle.slots.specs.declared.PortChannel.{PortChannel}
use Rattle.slots.specs.declared.Channel.{Channel}
use Rattle.slots.specs.Codes.{state_init, state_try_open, state_open}
use Rattle.slots.specs.Table.{has_free}
use Rattle.slots.specs.Layout.{Store}
use Rattle.slots.specs.Scan.{index_where, is_free, first_free}
use Rattle.datagram.specs.declared.EndVerdict.{EndVerdict}
use Rattle.datagram.specs.Kind.{only, open_acknowledge, open_confirm}
use Rattle.datagram.specs.Datagram.{Datagram}
use Rattle.rules.specs.Verdict.{same_but_version, first_end_difference, has_version}
use Rattle.rules.specs.Handshake.{needed_end, needed_try_open, needed_peer}
use Rattle.rules.specs.Refusals.{first_given, table, is_in_state}
use Rattle.verdicts.specs.Lines.{behind, number_behind}
use Rattle.steps.specs.Moving.{moving_lines}

-- a slot is free where a scan finds one
free_at : {A : Type 0} (n : ℕ) (xs : List (Option A)) → is_some (index_where is_free n xs) ≡ has_free xs
unfolding has_free index_where
free_at n [] = refl
free_at n (none ∷ xs) = refl
free_at n (some x ∷ xs) = free_at (suc n) xs

pub none_free : {A : Type 0} (xs : List (Option A)) (f : Found ℕ) (b : Bool) → f ≡ first_free xs → is_some f ≡ not b →
    not (has_free xs) ≡ b
none_free xs f b e n = ap not (sym (free_at 0 xs) ∙ sym (ap is_some e) ∙ n) ∙ not-not b

-- line 14 of an open try does not look at the version
pub needed_try : (v : EndVerdict) (s o : ℕ) (e f : PortChannel) (x y : List ℕ) →
    first_end_difference v (needed_end s o e f x) ≡ first_end_difference v (needed_end s o e f y)
unfolding first_end_difference same_but_version needed_end
needed_try v s o e f x y = refl

pub moving_choices : (b : Bool) (v : EndVerdict) (e : Channel) (n : ℕ) (c : Channel) →
    first_given none (moving_lines b v e n c) ≡
    pick (not b) 8 (pick (eqb (first_end_difference v e) 0)
    (pick (not (is_in_state n c)) 26 (pick (not (has_version v e)) 27 0)) (first_end_difference v e))
unfolding first_given moving_lines
moving_choices b v e n c = grind arith

pub open_acknowledge_lines : (s : Store) (d : Datagram) (c : Channel) →
    number_behind 7 (some open_acknowledge) s d c ≡
    first_given none (moving_lines d.context.connected d.end_verdict (needed_try_open c d) state_init c)
unfolding number_behind behind table first_given only ◌or◌ moving_lines
open_acknowledge_lines s d c = grind arith

pub open_confirm_lines : (s : Store) (d : Datagram) (c : Channel) →
    number_behind 7 (some open_confirm) s d c ≡
    first_given none (moving_lines d.context.connected d.end_verdict (needed_peer state_open c) state_try_open c)
unfolding number_behind behind table first_given only ◌or◌ moving_lines
open_confirm_lines s d c = grind arith
