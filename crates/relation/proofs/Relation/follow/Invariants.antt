-- `relation::Relation::follow` meets its contract: each row, with the image of those of its states that are left, is that of `composed`.
-- Assumes nothing.
use mathlib.Core.Path.{◌≡◌}
use Prim.Native.Nat.{◌≤◌, ◌-◌}
use Rattle.relation.proofs.Over.{over}
use Rattle.relation.proofs.Members.{columned, Columns}
use Rattle.relation.proofs.Relation.follow.Given as goal

abbrev pub invariant-loop-p : goal.invariant-loop-p
invariant-loop-p l = (l.p ≤ 24) × (l.out ≡ over (columned l.q l.row l.self.rows l.initial.out) l.initial.out l.p)

abbrev pub decreases-loop-p : goal.decreases-loop-p
decreases-loop-p l = 24 - l.p

abbrev pub invariant-loop-rest : goal.invariant-loop-rest
invariant-loop-rest l = Columns l.self.rows l.other l.out l.rest

abbrev pub decreases-loop-rest : goal.decreases-loop-rest
decreases-loop-rest l = l.rest
