-- `chains::leaving::sweep` ends, after one turn for each node.
-- Assumes nothing.
use Prim.Native.Nat.{◌-◌}
use mathlib.Core.Path.{◌≡◌}
use lib.ListN.{length}
use Rattle.chains.proofs.leaving.sweep.Given as goal

abbrev pub invariant-loop-node : goal.invariant-loop-node
invariant-loop-node l = (length l.reached ≡ length l.initial.reached) × (length l.visited ≡ length l.initial.visited)

abbrev pub decreases-loop-node : goal.decreases-loop-node
decreases-loop-node l = l.end - l.node
