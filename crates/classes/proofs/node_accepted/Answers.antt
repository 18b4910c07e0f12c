-- `classes::node_accepted` meets its contract: a loop at the root leads from an initial state to a final one.
-- Assumes nothing.
use Rattle.overloops.proofs.Laws.{accepted-by}
use Rattle.classes.proofs.node_accepted.Goals as goal

pub returns : goal.returns
returns c = λ A k. accepted-by A _ _ _ _ _ k.initial k.accepting (c.node_loops.ensures A k.tabled) c.meets.ensures
