-- `crate::walk::rounds` ends, after 24,577 rounds at most.
-- Assumes nothing.
use Rattle.std.proofs.Common.{◌≡◌, ◌≤◌, length}
use Rattle.search.proofs.walk.rounds.Given as goal

abbrev pub invariant-loop : goal.invariant-loop
invariant-loop l = (l.counter ≤ 24577) × (length l.reached ≡ length l.initial.reached)
