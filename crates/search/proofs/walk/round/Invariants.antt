-- `crate::walk::round` ends, after one turn for each node.
-- Assumes nothing.
use Rattle.std.proofs.Common.{◌≡◌, ◌≤◌, length}
use Rattle.search.proofs.walk.round.Given as goal

abbrev pub invariant-loop-node : goal.invariant-loop-node
invariant-loop-node l = (l.node ≤ l.size) × (length l.reached ≡ length l.initial.reached)
