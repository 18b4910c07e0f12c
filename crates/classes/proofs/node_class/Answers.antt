-- `classes::node_class` meets its contract: the node's overloops on both sides.
-- Assumes nothing.
use mathlib.Core.Path.{ap₂}
use Rattle.algorithms.specs.Saturate.{parts}
use Rattle.classes.proofs.node_class.Goals as goal

pub returns : goal.returns
returns c = λ A k. ap₂ parts (c.node_overloops.ensures A k) (c.node_overloops-2.ensures A k)
