-- `watch::follow::follow` meets its contract. The invariant: what is left of the walk, with the log as it is, gives the whole walk.
-- Assumes nothing.
use Prim.Native.Nat.{◌-◌}
use Rattle.watch.specs.Following.{Walkable}
use Rattle.watch.proofs.Going.{Going}
use Rattle.watch.proofs.follow.follow.Given as goal

abbrev pub invariant-loop-at : goal.invariant-loop-at
invariant-loop-at l = (w : Walkable l.accepting l.most l.initial.at.state.0 l.nodes l.choices l.parents l.rights) → Going w.automaton w.tree l.initial.at.state.0 l.budget l.initial.log l.log l.made l.at.node l.at.state.0

abbrev pub decreases-loop-at : goal.decreases-loop-at
decreases-loop-at l = l.budget - l.made
