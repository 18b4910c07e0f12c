-- `witness::plan::first_wrong` meets its contract.
-- Assumes nothing.
use Prim.Native.Nat.{◌-◌, ◌≤◌}
use mathlib.Core.Path.{◌≡◌}
use Rattle.blocks.specs.Search.{lowest, lowest_from}
use Rattle.witness.specs.Plan.{row_wrong}
use Rattle.witness.proofs.plan.first_wrong.Given as goal

abbrev pub invariant-loop-i : goal.invariant-loop-i
invariant-loop-i l = (l.i ≤ l.rows) × (lowest (row_wrong l.signature l.plan) l.rows ≡ lowest_from (row_wrong l.signature l.plan) l.i (l.rows - l.i))
