-- `crate::random::seed` ends, after twelve numbers.
-- Assumes nothing.
use Prim.Native.Nat.{◌≤◌}
use Rattle.sampling.proofs.random.seed.Given as goal

abbrev pub invariant-loop : goal.invariant-loop
invariant-loop l = l.counter ≤ 12
