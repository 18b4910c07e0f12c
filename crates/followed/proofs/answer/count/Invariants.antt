-- `followed::answer::count` ends, after 32 states.
-- Assumes nothing.
use Prim.Native.Nat.{◌≤◌}
use Rattle.followed.proofs.answer.count.Given as goal

abbrev pub invariant-loop-state : goal.invariant-loop-state
invariant-loop-state l = l.state ≤ 32
