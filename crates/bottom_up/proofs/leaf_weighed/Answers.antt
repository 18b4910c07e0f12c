-- `bottom_up::leaf_weighed` meets its contract.
-- Assumes nothing.
use Rattle.overloops.proofs.Laws.{accepted-by}
use Rattle.algorithms.specs.Overloops.{loops, accepts?}
use Rattle.model.specs.Trees.{leaf}
use Rattle.algorithms.proofs.Grown.{leaf-sum}
use Rattle.bottom_up.proofs.leaf_weighed.Goals as goal

pub returns : goal.returns
unfolding loops accepts?
returns c =
    λ A sg s k w.
    let closed = c.close_leaf-closed.ensures.0 A k.tabled in
    c.verdict_with.ensures A sg s (leaf _) w (accepted-by A _ _ _ _ _ k.initial k.accepting closed.0 c.meets.ensures) (leaf-sum A _ _ closed.1)
