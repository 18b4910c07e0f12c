-- `crate::rules::find` ends, after one turn for each rule.
-- Assumes nothing.
use Prim.Native.Nat.{◌≤◌}
use Rattle.sampling.proofs.rules.find.Given as goal

abbrev pub invariant-loop-i : goal.invariant-loop-i
invariant-loop-i l = l.i ≤ l.count
