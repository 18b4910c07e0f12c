-- `repeats::contradicts` ends, after one turn for each earlier record.
-- Assumes nothing.
use Prim.Native.Nat.{◌≤◌}
use Rattle.repeats.proofs.contradicts.Given as goal

abbrev pub invariant-loop-j : goal.invariant-loop-j
invariant-loop-j l = l.j ≤ l.i
