-- `approximation::is_clear` meets its contract: the least sets, and the loops at the root with these for the parts.
-- Assumes nothing.
use mathlib.Core.Path.{ap, ◌∙◌}
use mathlib.Core.Bool.{not}
use Rattle.algorithms.specs.Approximate.{settled, least_parts, root_side, clear?}
use Rattle.overloops.proofs.Laws.{accepted-by}
use Rattle.approximation.proofs.is_clear.Goals as goal

pub returns : goal.returns
unfolding clear? least_parts
returns c =
    λ A k.
    let sets-are = c.settled-sets.ensures A k.headed ∙ ap (settled A 1153) (c.leaf_sets.ensures A _ k) in
    let root_is = c.root_loops.ensures A k.headed ∙ ap (root_side A) sets-are in
    ap not (accepted-by A _ _ _ _ _ k.headed.initial k.headed.accepting root_is c.meets.ensures)
