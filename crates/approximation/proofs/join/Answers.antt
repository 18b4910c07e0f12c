-- `approximation::join` meets its contract.
-- Assumes nothing.
use mathlib.Core.Path.{ap₂}
use Rattle.algorithms.specs.Saturate.{parts}
use Rattle.approximation.proofs.join.Goals as goal

pub returns : goal.returns
returns c = ap₂ parts c.join.ensures c.join-2.ensures
