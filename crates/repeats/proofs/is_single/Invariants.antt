-- `repeats::is_single` ends, after one turn for each record.
-- Assumes nothing.
use Prim.Native.Nat.{◌≤◌}
use Rattle.repeats.proofs.is_single.Given as goal

abbrev pub invariant-loop-i : goal.invariant-loop-i
invariant-loop-i l = l.i ≤ l.i-end
