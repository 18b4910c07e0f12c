-- `chains::sum` ends, after one turn for each node.
-- Assumes nothing.
use Prim.Native.Nat.{◌≤◌}
use Rattle.chains.proofs.sum.Given as goal

abbrev pub invariant-loop-node : goal.invariant-loop-node
invariant-loop-node l = l.node ≤ l.size
