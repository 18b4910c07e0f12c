-- `emptiness::plan::write_plan` meets its contract.
-- Assumes nothing.
use Prim.Native.Nat.{◌*◌, ◌≤◌}
use mathlib.Core.Path.{◌≡◌}
use mathlib.Core.List.{◌++◌}
use lib.ListN.{length, drop}
use Rattle.representatives.specs.Stored.{origins_in}
use Rattle.emptiness.specs.Surveyed.{plan_bytes}
use Rattle.emptiness.proofs.plan.write_plan.Given as goal

abbrev pub invariant-loop-i : goal.invariant-loop-i
invariant-loop-i l = (length l.plan ≡ length l.initial.plan) × (l.i ≤ l.n) × (l.plan ≡ plan_bytes (origins_in l.rows l.i) ++ drop (3 * l.i) l.initial.plan)
