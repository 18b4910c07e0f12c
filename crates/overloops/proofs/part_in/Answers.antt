-- `overloops::part_in` meets its contract: the loops, each followed by each transition up.
-- Assumes nothing.
use Rattle.overloops.proofs.Laws.{overloops-formed}
use Rattle.overloops.proofs.part_in.Goals as goal

pub returns : goal.returns
returns c = (
  λ A k.
      let loops = c.close_in-loops.ensures.0 A k in
      (overloops-formed A _ _ _ _ loops.0 (c.moves_in.ensures.1 A k.compiled) c.follow.ensures, loops.1),
  c.close_in-loops.ensures.1,
)
