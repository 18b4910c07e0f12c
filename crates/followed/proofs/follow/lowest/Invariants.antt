-- `followed::follow::lowest` ends, after 32 states at most.
-- Assumes nothing.
use Prim.Native.Nat.{◌≤◌}
use Rattle.followed.proofs.follow.lowest.Given as goal

abbrev pub invariant-loop-state : goal.invariant-loop-state
invariant-loop-state l = l.state ≤ 32
