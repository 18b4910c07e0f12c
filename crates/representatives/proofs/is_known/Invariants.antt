-- `representatives::is_known` meets its contract. The invariant: none of the rows before is the one.
-- Assumes nothing.
use Prim.Native.Nat.{◌≤◌}
use mathlib.Core.Bool.{false}
use Rattle.algorithms.specs.Saturate.{parts}
use Rattle.representatives.specs.Stored.{KnownIn}
use Rattle.representatives.proofs.is_known.Given as goal

abbrev pub invariant-loop-i : goal.invariant-loop-i
invariant-loop-i l = (l.i ≤ l.n) × KnownIn false l.rows l.i (parts l.left l.right)
