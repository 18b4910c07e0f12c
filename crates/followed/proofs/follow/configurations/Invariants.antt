-- `followed::follow::configurations` ends, after one turn for each state.
-- Assumes nothing.
use Prim.Native.Nat.{◌≤◌}
use Rattle.followed.proofs.follow.configurations.Given as goal

abbrev pub invariant-loop : goal.invariant-loop
invariant-loop l = l.counter ≤ l.end
