-- `bottom_up::node_weighed` meets its contract.
-- Assumes nothing.
use Rattle.overloops.proofs.Laws.{accepted-by}
use Rattle.algorithms.specs.Overloops.{node_loops, loops, accepts?}
use Rattle.model.specs.Trees.{node}
use Rattle.bottom_up.proofs.Ending.{root-sum}
use mathlib.Core.Path.{ap₂, ◌∙◌}
use native.Mathlib.Omega.{arith}
use Rattle.bottom_up.proofs.node_weighed.Goals as goal

pub returns : goal.returns
unfolding loops accepts?
returns c =
    λ A sg s k t u el er w below.
    c.verdict_with.ensures A sg s (node _ t u) w
    (accepted-by A _ _ _ _ _ k.initial k.accepting ((c.close_node-closed.ensures.0 A k.tabled).0 ∙ ap₂ (node_loops A _ _) el er) c.meets.ensures)
    (root-sum A _ t u _ _ _ _ _ el er (c.close_node-closed.ensures.0 A k.tabled).1 below (omega arith))
