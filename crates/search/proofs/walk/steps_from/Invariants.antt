-- `crate::walk::steps_from` ends, after one turn for each rule.
-- Assumes nothing.
use Rattle.std.proofs.Common.{◌≡◌, ◌-◌, ◌≤◌, length}
use Rattle.search.proofs.walk.steps_from.Given as goal

abbrev pub invariant-loop-rule : goal.invariant-loop-rule
invariant-loop-rule l = (l.rule ≤ l.count) × (length l.reached ≡ length l.initial.reached)

abbrev pub decreases-loop-rule : goal.decreases-loop-rule
decreases-loop-rule l = l.count - l.rule
