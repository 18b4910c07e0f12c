-- `classes::leaf_class` meets its contract: the leaf's overloops on both sides.
-- Assumes nothing.
use mathlib.Core.Path.{ap₂}
use Rattle.algorithms.specs.Saturate.{parts}
use Rattle.classes.proofs.leaf_class.Goals as goal

pub returns : goal.returns
returns c = λ A P k. ap₂ parts (c.leaf_overloops.ensures A P k) (c.leaf_overloops-2.ensures A P k)
