-- `crate::guided::walk_on` ends, after one turn for each step.
-- Assumes nothing.
use Prim.Native.Nat.{◌-◌, ◌≤◌}
use mathlib.Core.Path.{◌≡◌}
use lib.ListN.{length}
use Rattle.generated.proofs.guided.walk_on.Given as goal

abbrev pub invariant-loop : goal.invariant-loop
invariant-loop l = (l.counter ≤ l.steps) × (length l.rules ≡ length l.initial.rules)

abbrev pub decreases-loop : goal.decreases-loop
decreases-loop l = l.steps - l.counter
