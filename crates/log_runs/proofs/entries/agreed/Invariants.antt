-- `log_runs::entries::agreed` ends, at the last entry at the latest.
-- Assumes nothing.
use Prim.Native.Nat.{◌≤◌}
use Rattle.log_runs.proofs.entries.agreed.Given as goal

abbrev pub invariant-loop-k : goal.invariant-loop-k
invariant-loop-k l = l.k ≤ l.n
