-- `watch_trials::lent::fill` ends, after the last byte, and stays within the log.
-- Assumes nothing.
use Prim.Native.Nat.{◌≤◌}
use mathlib.Core.Path.{◌≡◌}
use lib.ListN.{length}
use Rattle.watch_trials.proofs.lent.fill.Given as goal

abbrev pub invariant-loop-i : goal.invariant-loop-i
invariant-loop-i l = (l.i ≤ l.i-end) × (l.i-end ≤ length l.initial.log) × (length l.log ≡ length l.initial.log)
