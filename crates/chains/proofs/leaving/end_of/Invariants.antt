-- `chains::leaving::end_of` ends, after 65 nodes at most.
-- Assumes nothing.
use Prim.Native.Nat.{◌≤◌}
use Rattle.chains.proofs.leaving.end_of.Given as goal

abbrev pub invariant-loop : goal.invariant-loop
invariant-loop l = l.counter ≤ 65
