-- `enumerated::lists::is_known` ends, after one turn for each class.
-- Assumes nothing.
use Prim.Native.Nat.{◌≤◌}
use Rattle.enumerated.proofs.lists.is_known.Given as goal

abbrev pub invariant-loop-i : goal.invariant-loop-i
invariant-loop-i l = l.i ≤ l.n
