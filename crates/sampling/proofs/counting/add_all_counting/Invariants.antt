-- `crate::counting::add_all_counting` ends, after 80 turns.
-- Assumes nothing.
use Prim.Native.Nat.{◌≤◌}
use mathlib.Core.Path.{◌≡◌}
use lib.ListN.{length}
use Rattle.sampling.proofs.counting.add_all_counting.Given as goal

abbrev pub invariant-loop-i : goal.invariant-loop-i
invariant-loop-i l = (l.i ≤ 80) × (length l.rules ≡ length l.initial.rules)
