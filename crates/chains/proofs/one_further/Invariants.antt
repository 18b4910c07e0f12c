-- `chains::one_further` ends, after one turn for each state.
-- Assumes nothing.
use Prim.Native.Nat.{◌≤◌}
use Rattle.chains.proofs.one_further.Given as goal

abbrev pub invariant-loop-state : goal.invariant-loop-state
invariant-loop-state l = l.state ≤ 32
