-- `chains::growth_of` ends, after one turn for each state.
-- Assumes nothing.
use Prim.Native.Nat.{◌≤◌}
use Rattle.chains.proofs.growth_of.Given as goal

abbrev pub invariant-loop-state : goal.invariant-loop-state
invariant-loop-state l = l.state ≤ l.n
