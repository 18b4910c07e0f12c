-- `enumerated::plan::unchanged` ends, after one turn for each byte.
-- Assumes nothing.
use Prim.Native.Nat.{◌≤◌}
use Rattle.enumerated.proofs.plan.unchanged.Given as goal

abbrev pub invariant-loop-i : goal.invariant-loop-i
invariant-loop-i l = l.from ≤ l.i
