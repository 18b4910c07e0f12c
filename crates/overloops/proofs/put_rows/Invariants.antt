-- `overloops::put_rows` meets its contract. The invariant: the first p rows are written.
-- Assumes nothing.
use Prim.Native.Nat.{◌≤◌}
use mathlib.Core.Path.{◌≡◌}
use lib.ListN.{length}
use Rattle.overloops.specs.Tables.{PutFirst}
use Rattle.overloops.proofs.put_rows.Given as goal

abbrev pub invariant-loop-p : goal.invariant-loop-p
invariant-loop-p l = (l.p ≤ 24) × (length l.table ≡ length l.initial.table) × PutFirst l.p l.at l.rows.rows l.initial.table l.table
