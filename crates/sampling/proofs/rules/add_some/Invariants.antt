-- `crate::rules::add_some` ends, after one turn for each rule.
-- Assumes nothing.
use Prim.Native.Nat.{◌-◌, ◌≤◌}
use mathlib.Core.Path.{◌≡◌}
use lib.ListN.{length}
use Rattle.sampling.proofs.rules.add_some.Given as goal

abbrev pub invariant-loop : goal.invariant-loop
invariant-loop l = (l.counter ≤ l.n) × (length l.rules ≡ length l.initial.rules)

abbrev pub decreases-loop : goal.decreases-loop
decreases-loop l = l.n - l.counter
