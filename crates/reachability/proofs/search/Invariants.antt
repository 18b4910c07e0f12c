-- `reachability::search` meets its contract. The invariant: what is reached, and from what the steps are taken. The measure is the weight of the words.
-- Assumes nothing.
-- the words are as many as they were
-- the node that is taken is one of the tree
use Prim.Native.Nat.{◌≤◌}
use mathlib.Core.Path.{◌≡◌}
use lib.ListN.{length}
use Rattle.transitions.specs.Compiled.{next_in}
use Rattle.reachability.specs.Growth.{weight}
use Rattle.reachability.specs.Searched.{Searched}
use Rattle.reachability.proofs.search.Given as goal

abbrev pub invariant-loop-reached : goal.invariant-loop-reached
invariant-loop-reached l = (length l.reached ≡ length l.initial.reached) × (length l.fresh ≡ length l.initial.fresh) × (length l.waiting ≡ length l.initial.waiting) × (l.height ≤ length l.waiting)
    × Searched (next_in l.table) l.symbols l.parents l.rights l.header.initial l.reached l.fresh

abbrev pub decreases-loop-reached : goal.decreases-loop-reached
decreases-loop-reached l = weight l.reached l.fresh
