-- `relation::occupied_in` meets its contract: at each turn the rows before p are in the set or are 0.
-- Assumes nothing.
use Prim.Native.Nat.{◌≤◌}
use Rattle.relation.proofs.Members.{Upto}
use Rattle.relation.proofs.occupied_in.Given as goal

abbrev pub invariant-loop-p : goal.invariant-loop-p
invariant-loop-p l = (l.p ≤ 24) × Upto l.rows l.p l.set
