-- `crate::families::add_circles` ends, after one turn for each circle.
-- Assumes nothing.
use Prim.Native.Nat.{◌≤◌}
use mathlib.Core.Path.{◌≡◌}
use lib.ListN.{length}
use Rattle.generated.proofs.families.add_circles.Given as goal

abbrev pub invariant-loop : goal.invariant-loop
invariant-loop l = (l.counter ≤ l.n) × (length l.rules ≡ length l.initial.rules)
