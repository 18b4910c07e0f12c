-- `followed::follow::follow` ends, after 20,001 positions at most.
-- Assumes nothing.
use Prim.Native.Nat.{◌-◌, ◌≤◌}
use mathlib.Core.Path.{◌≡◌}
use lib.ListN.{length}
use Rattle.followed.proofs.follow.follow.Given as goal

abbrev pub invariant-loop-steps : goal.invariant-loop-steps
invariant-loop-steps l = (l.steps ≤ 20001) × (length l.log ≡ length l.initial.log)

abbrev pub decreases-loop-steps : goal.decreases-loop-steps
decreases-loop-steps l = 20001 - l.steps
