-- `relation::Relation::join_follow` meets its contract: the loop replaces each row by that of the join with the composition. Assumes nothing.
use mathlib.Core.Path.{◌≡◌}
use Prim.Native.Nat.{◌≤◌}
use Rattle.relation.specs.Rows.{joined, composed}
use Rattle.relation.proofs.Over.{over}
use Rattle.relation.proofs.Relation.join_follow.Given as goal

abbrev pub invariant-loop-p : goal.invariant-loop-p
invariant-loop-p l = (l.p ≤ 24) × (l.self.rows ≡ over (joined l.initial.self.rows (composed l.steps l.part)) l.initial.self.rows l.p)
