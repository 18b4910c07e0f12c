-- `enumerated::rows::unfold` ends, after 1,024 nodes at most.
-- Assumes nothing.
use Prim.Native.Nat.{◌≤◌}
use mathlib.Core.Path.{◌≡◌}
use lib.ListN.{length}
use Rattle.enumerated.proofs.rows.unfold.Given as goal

abbrev pub invariant-loop-node : goal.invariant-loop-node
invariant-loop-node l = (l.node ≤ 1024) × (length l.nodes ≡ length l.initial.nodes)
