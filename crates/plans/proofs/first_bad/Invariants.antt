-- `plans::first_bad` ends, after one turn for each row.
-- Assumes nothing.
use Prim.Native.Nat.{◌≤◌}
use Rattle.plans.proofs.first_bad.Given as goal

abbrev pub invariant-loop-i : goal.invariant-loop-i
invariant-loop-i l = l.i ≤ l.n
