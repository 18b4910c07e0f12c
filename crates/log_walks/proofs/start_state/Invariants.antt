-- `log_walks::start_state` ends, at the last state at the latest.
-- Assumes nothing.
use Prim.Native.Nat.{◌≤◌}
use Rattle.log_walks.proofs.start_state.Given as goal

abbrev pub invariant-loop-i : goal.invariant-loop-i
invariant-loop-i l = l.i ≤ 32
