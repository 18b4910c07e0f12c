-- `watch_trials::counts::refusals` ends, after the last number.
-- Assumes nothing.
use Prim.Native.Nat.{◌≤◌}
use Rattle.watch_trials.proofs.counts.refusals.Given as goal

abbrev pub invariant-loop-i : goal.invariant-loop-i
invariant-loop-i l = l.i ≤ 13
