-- Refusals 20, 21, 22 and 13 of a watch. The quotations are of document 02, W7.
-- Interface: `log_length`, `watch_check`.
use Rattle.std.specs.Prelude.{ℕ, ◌+◌, ◌*◌, Bool, not, eqb, ltb}
use Rattle.std.specs.Int.Count.{ones}
use Rattle.algorithms.specs.Automaton.{Automaton}
use Rattle.refusal.specs.Checks.{refuse_if, ◌and_then◌, Check}
use Rattle.refusal.specs.declared.Fault.{Fault}

-- "3 × (budget + 1)"
abbrev pub log_length : (budget : ℕ) → ℕ
log_length budget = 3 * (budget + 1)

-- "20 not single, place 0; 21 not exactly one start state, place the number there are; 22 budget over 20,000, place 20,000; then 13, output
-- under 3 × (budget + 1), place that length"
unfoldable pub watch_check : (single : Bool) → Automaton → (budget room : ℕ) → Check
watch_check single A budget room =
    refuse_if (not single) Fault.Single 2 0
    and_then refuse_if (not (eqb (ones A.initial) 1)) Fault.Start 2 (ones A.initial)
    and_then refuse_if (ltb 20000 budget) Fault.Budget 2 20000
    and_then refuse_if (ltb room (log_length budget)) Fault.Buffer 2 (log_length budget)
