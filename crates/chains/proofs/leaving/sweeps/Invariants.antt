-- `chains::leaving::sweeps` ends, after 24,577 sweeps at most.
-- Assumes nothing.
use Prim.Native.Nat.{◌-◌, ◌≤◌}
use mathlib.Core.Path.{◌≡◌}
use lib.ListN.{length}
use Rattle.chains.proofs.leaving.sweeps.Given as goal

abbrev pub invariant-loop : goal.invariant-loop
invariant-loop l = (l.counter ≤ 24577) × ((length l.reached ≡ length l.initial.reached) × (length l.visited ≡ length l.initial.visited))

abbrev pub decreases-loop : goal.decreases-loop
decreases-loop l = 24577 - l.counter
