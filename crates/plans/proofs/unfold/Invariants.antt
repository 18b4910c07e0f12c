-- `plans::unfold` ends, after 4,097 nodes at most.
-- Assumes nothing.
use Prim.Native.Nat.{◌≤◌}
use mathlib.Core.Path.{◌≡◌}
use lib.ListN.{length}
use Rattle.plans.proofs.unfold.Given as goal

abbrev pub invariant-loop-node : goal.invariant-loop-node
invariant-loop-node l = (l.node ≤ 4097) × (length l.waiting ≡ 130) × (length l.symbols ≡ length l.initial.symbols)
