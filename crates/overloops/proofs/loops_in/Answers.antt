-- `overloops::loops_in` meets its contract.
-- Assumes nothing.
use Rattle.overloops.proofs.Laws.{loops-formed}
use Rattle.overloops.proofs.loops_in.Goals as goal

pub returns : goal.returns
returns c = λ A k. loops-formed A _ _ _ _ _ k.states (c.simple_in.ensures A k.compiled) c.closure.ensures
