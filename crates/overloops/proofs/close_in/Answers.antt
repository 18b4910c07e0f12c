-- `overloops::close_in` meets its contract.
-- Assumes nothing.
use Rattle.overloops.proofs.Laws.{loops-formed, growth-formed}
use Rattle.overloops.proofs.close_in.Goals as goal

pub returns : goal.returns
returns c = (
  λ A k.
      let given = c.simple_in.ensures A k.compiled in
      (loops-formed A _ _ _ _ _ k.states given c.close.ensures.0, growth-formed A _ _ _ _ _ k.states given c.close.ensures.1),
  c.close.ensures.2,
)
