-- `chains::chained` ends, after 32 turns.
-- Assumes nothing.
use Prim.Native.Nat.{◌≤◌}
use Rattle.chains.proofs.chained.Given as goal

abbrev pub invariant-loop : goal.invariant-loop
invariant-loop l = l.counter ≤ 32
