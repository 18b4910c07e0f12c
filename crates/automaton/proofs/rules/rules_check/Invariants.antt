-- `automaton::rules::rules_check` meets its contract. The invariant: the checks that are left, from rule i on, give the answer.
-- Assumes nothing.
use Prim.Native.Nat.{◌-◌}
use mathlib.Core.Path.{◌≡◌}
use Rattle.refusal.specs.Checks.{check_each, check_from}
use Rattle.automaton.specs.Rules.{rule_check}
use Rattle.automaton.proofs.rules.rules_check.Given as goal

abbrev pub invariant-loop-i : goal.invariant-loop-i
invariant-loop-i l = check_each (rule_check l.header l.content) l.rules ≡ check_from (rule_check l.header l.content) l.i (l.rules - l.i)
