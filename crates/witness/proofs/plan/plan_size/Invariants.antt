-- `witness::plan::plan_size` meets its contract.
-- Assumes nothing.
use Rattle.witness.specs.Sound.{Sized}
use lib.ListN.{length}
use mathlib.Core.Path.{◌≡◌}
use Prim.Native.Nat.{◌≤◌}
use Rattle.witness.proofs.plan.plan_size.Given as goal

abbrev pub invariant-loop-i : goal.invariant-loop-i
invariant-loop-i l = (l.i ≤ l.rows) × (length l.sizes ≡ 65) × Sized l.plan l.sizes l.i
