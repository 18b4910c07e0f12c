-- `enumerated::lists::accepts_some` ends, after one turn for each tree.
-- Assumes nothing.
use Prim.Native.Nat.{◌≤◌}
use Rattle.enumerated.proofs.lists.accepts_some.Given as goal

abbrev pub invariant-loop-row : goal.invariant-loop-row
invariant-loop-row l = l.from ≤ l.row
