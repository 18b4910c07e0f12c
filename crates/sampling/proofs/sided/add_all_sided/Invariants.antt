-- `crate::sided::add_all_sided` ends, after 192 turns.
-- Assumes nothing.
use Prim.Native.Nat.{◌≤◌}
use mathlib.Core.Path.{◌≡◌}
use lib.ListN.{length}
use Rattle.sampling.proofs.sided.add_all_sided.Given as goal

abbrev pub invariant-loop-i : goal.invariant-loop-i
invariant-loop-i l = (l.i ≤ 192) × (length l.rules ≡ length l.initial.rules)
