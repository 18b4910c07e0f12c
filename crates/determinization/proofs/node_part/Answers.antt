-- `determinization::node_part` meets its contract.
-- Assumes nothing.
use Rattle.determinization.proofs.Computing.{part-over}
use native.Mathlib.Omega.{arith}
use Rattle.determinization.proofs.node_part.Goals as goal

pub returns : goal.returns
returns c = (
  λ A k. part-over A _ _ c.class_rows-l.ensures c.class_rows-r.ensures (c.part_in.ensures.0 A k),
  omega (arith, c.part_in.ensures.1),
)
