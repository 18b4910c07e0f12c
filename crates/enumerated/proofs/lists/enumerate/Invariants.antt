-- `enumerated::lists::enumerate` ends, after five heights at most.
-- Assumes nothing.
use Prim.Native.Nat.{◌≤◌}
use mathlib.Core.Path.{◌≡◌}
use lib.ListN.{length}
use Rattle.enumerated.proofs.lists.enumerate.Given as goal

abbrev pub invariant-loop-height : goal.invariant-loop-height
invariant-loop-height l = (l.height ≤ 5) × (length l.list ≡ 4500) × (length l.known ≡ 256) × (length l.classes ≡ length l.initial.classes)
