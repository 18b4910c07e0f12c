-- `log_runs::entries::run_length` ends, at the last entry at the latest.
-- Assumes nothing.
use Prim.Native.Nat.{◌≤◌}
use Rattle.log_runs.proofs.entries.run_length.Given as goal

abbrev pub invariant-loop-k : goal.invariant-loop-k
invariant-loop-k l = l.k ≤ l.n
