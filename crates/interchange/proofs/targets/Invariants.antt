-- `interchange::targets` meets its contract. The invariant: the pairs of the first p rows lead into the set.
-- Assumes nothing.
use Prim.Native.Nat.{◌≤◌}
use Rattle.interchange.proofs.Laws.{LeadUpto}
use Rattle.interchange.proofs.targets.Given as goal

abbrev pub invariant-loop-p : goal.invariant-loop-p
invariant-loop-p l = (l.p ≤ 24) × LeadUpto l.table l.at l.p l.set
