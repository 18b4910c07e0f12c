-- `overloops::rows_at` meets its contract. The invariant: the first p rows are those of the table.
-- Assumes nothing.
use Prim.Native.Nat.{◌≤◌}
use mathlib.Core.Path.{◌≡◌}
use lib.ListN.{length, take, drop}
use Rattle.relation.proofs.Over.{over}
use Rattle.overloops.proofs.rows_at.Given as goal

abbrev pub invariant-loop-p : goal.invariant-loop-p
invariant-loop-p l = (l.p ≤ 24) × (length l.rows ≡ 24) × (l.rows ≡ over (take 24 (drop l.at l.table)) l.initial.rows l.p)
