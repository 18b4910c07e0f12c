-- `relation::Relation::count` meets its contract: at each turn the rows from p on are still to be counted. Assumes nothing.
use mathlib.Core.Path.{◌≡◌}
use Prim.Native.Nat.{◌+◌, ◌*◌, ◌≤◌}
use lib.ListN.{drop}
use Rattle.relation.specs.Rows.{count_of}
use Rattle.relation.proofs.Relation.count.Given as goal

abbrev pub invariant-loop-p : goal.invariant-loop-p
invariant-loop-p l = (l.p ≤ 24) × (l.n ≤ 32 * l.p) × (l.n + count_of (drop l.p l.self.rows) ≡ count_of l.self.rows)
