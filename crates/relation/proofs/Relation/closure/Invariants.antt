-- `relation::Relation::closure` meets its contract: the first loop adds the self pairs, and the second goes through the states of `between`.
-- Assumes nothing.
use mathlib.Core.Path.{◌≡◌}
use Prim.Native.Nat.{◌-◌, ◌^◌, ◌≤◌, ◌<◌}
use lib.ListN.{length}
use Rattle.relation.specs.Rows.{absorbed}
use Rattle.relation.proofs.Over.{over}
use Rattle.relation.proofs.Closing.{Selfs, Onward}
use Rattle.relation.proofs.Relation.closure.Given as goal

abbrev pub invariant-loop-p : goal.invariant-loop-p
invariant-loop-p l = (l.p ≤ 24) × Selfs l.initial.self.rows l.states l.p l.self.rows

abbrev pub decreases-loop-p : goal.decreases-loop-p
decreases-loop-p l = 24 - l.p

abbrev pub invariant-loop-p-2 : goal.invariant-loop-p-2
invariant-loop-p-2 l = (l.p ≤ 24) × (l.self.rows ≡ over (absorbed l.k l.row l.initial.self.rows) l.initial.self.rows l.p)

abbrev pub decreases-loop-p-2 : goal.decreases-loop-p-2
decreases-loop-p-2 l = 24 - l.p

abbrev pub invariant-loop-rest : goal.invariant-loop-rest
invariant-loop-rest l = (l.rest < 2 ^ 24) × (length l.self.rows ≡ 24) × Onward l.states l.initial.self.rows l.initial.rest l.self.rows l.rest

abbrev pub decreases-loop-rest : goal.decreases-loop-rest
decreases-loop-rest l = l.rest
