-- The lines of a step that moves an end to another state, by the record of the other end that it needs and its prior
-- state.
use Rattle.std.specs.Prelude.{Bool, not, List, [], ◌∷◌, ℕ}
use Rattle.slots.specs.declared.Channel.{Channel}
use Rattle.datagram.specs.declared.EndVerdict.{EndVerdict}
use Rattle.rules.specs.Verdict.{first_end_difference, has_version}
use Rattle.rules.specs.Refusals.{Line, line, giving, every, is_in_state}

unfoldable pub moving_lines : (connected : Bool) → EndVerdict → (needed : Channel) → (prior : ℕ) → Channel → List Line
moving_lines b v e n c =
    line 8 every (not b) ∷
    giving 14 every (first_end_difference v e) ∷
    line 26 every (not (is_in_state n c)) ∷
    line 27 every (not (has_version v e)) ∷ []
