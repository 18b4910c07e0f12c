-- `representatives::class_at` meets its contract: both relations of the row.
-- Assumes nothing.
use mathlib.Core.Path.{ap₂}
use Rattle.algorithms.specs.Saturate.{parts}
use Rattle.representatives.proofs.class_at.Goals as goal

pub returns : goal.returns
returns c = ap₂ parts c.rows_at.ensures c.rows_at-2.ensures
