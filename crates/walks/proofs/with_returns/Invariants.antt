-- `walks::with_returns` ends, after one turn for each count, and stays within its bounds.
-- Assumes nothing.
use Prim.Native.Nat.{◌-◌, ◌≤◌}
use mathlib.Core.Path.{◌≡◌}
use lib.ListN.{length}
use Rattle.walks.proofs.with_returns.Given as goal

abbrev pub invariant-loop-count : goal.invariant-loop-count
invariant-loop-count l = (l.count ≤ l.period) × (l.period ≤ 10) × (length l.records ≡ length l.initial.records)

abbrev pub decreases-loop-count : goal.decreases-loop-count
decreases-loop-count l = l.period - l.count
