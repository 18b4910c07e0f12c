-- `large_trees::first_at` ends, at the last node at the latest.
-- Assumes nothing.
use Prim.Native.Nat.{◌≤◌}
use Rattle.large_trees.proofs.first_at.Given as goal

abbrev pub invariant-loop-node : goal.invariant-loop-node
invariant-loop-node l = l.node ≤ l.size
