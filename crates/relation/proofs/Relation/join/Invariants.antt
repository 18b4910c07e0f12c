-- `relation::Relation::join` meets its contract: the loop replaces each row by that of `joined`. Assumes nothing.
use mathlib.Core.Path.{◌≡◌}
use Prim.Native.Nat.{◌≤◌}
use Rattle.relation.specs.Rows.{joined}
use Rattle.relation.proofs.Over.{over}
use Rattle.relation.proofs.Relation.join.Given as goal

abbrev pub invariant-loop-p : goal.invariant-loop-p
invariant-loop-p l = (l.p ≤ 24) × (l.self.rows ≡ over (joined l.initial.self.rows l.other.rows) l.initial.self.rows l.p)
