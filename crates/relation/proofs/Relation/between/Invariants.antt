-- `relation::Relation::between` meets its contract: at each turn the pairs out of the states before p are in both sets.
-- Assumes nothing.
use Prim.Native.Nat.{◌≤◌}
use Rattle.relation.proofs.Closing.{Seen}
use Rattle.relation.proofs.Relation.between.Given as goal

abbrev pub invariant-loop-p : goal.invariant-loop-p
invariant-loop-p l = (l.p ≤ 24) × Seen l.self.rows l.p l.entered l.left
