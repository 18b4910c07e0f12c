-- `crate::trees::grow` ends, after 1,024 nodes at most.
-- Assumes nothing.
use Rattle.std.proofs.Common.{◌≡◌, ◌-◌, ◌≤◌, length}
use Rattle.search.proofs.trees.grow.Given as goal

abbrev pub invariant-loop-node : goal.invariant-loop-node
invariant-loop-node l = (l.node ≤ 1024) × (length l.nodes ≡ length l.initial.nodes)

abbrev pub decreases-loop-node : goal.decreases-loop-node
decreases-loop-node l = 1024 - l.node
