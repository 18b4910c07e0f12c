-- `interchange::differing` meets its contract. The invariant: the first p rows are the same but at the states of the set.
-- Assumes nothing.
use Prim.Native.Nat.{◌≤◌}
use Rattle.interchange.proofs.Laws.{SameUpto}
use Rattle.interchange.proofs.differing.Given as goal

abbrev pub invariant-loop-p : goal.invariant-loop-p
invariant-loop-p l = (l.p ≤ 24) × SameUpto l.rows l.x l.y l.p l.set
