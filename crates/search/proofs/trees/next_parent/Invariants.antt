-- `crate::trees::next_parent` ends, after 65 nodes at most.
-- Assumes nothing.
use Rattle.std.proofs.Common.{◌≤◌}
use Rattle.search.proofs.trees.next_parent.Given as goal

abbrev pub invariant-loop : goal.invariant-loop
invariant-loop l = l.counter ≤ 65
