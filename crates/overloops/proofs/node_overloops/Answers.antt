-- `overloops::node_overloops` meets its contract: the loops, each followed by each transition up.
-- Assumes nothing.
use Rattle.overloops.proofs.Laws.{overloops-formed}
use Rattle.overloops.proofs.node_overloops.Goals as goal

pub returns : goal.returns
returns c = λ A k. overloops-formed A _ _ _ _ (c.loops_in.ensures A k) (c.moves_in.ensures.1 A k.compiled) c.follow.ensures
