-- `enumerated::lists::add_rights` ends, after one turn for each right tree.
-- Assumes nothing.
use Prim.Native.Nat.{◌-◌, ◌≤◌}
use mathlib.Core.Path.{◌≡◌}
use lib.ListN.{length}
use Rattle.enumerated.proofs.lists.add_rights.Given as goal

abbrev pub invariant-loop-right : goal.invariant-loop-right
invariant-loop-right l = (l.from ≤ l.right) × (length l.list ≡ length l.initial.list)

abbrev pub decreases-loop-right : goal.decreases-loop-right
decreases-loop-right l = l.n - l.right
