-- `steps::lowest` meets its contract: it is the number of trailing zeros.
-- Assumes nothing.
use lib.Count.{trailing_le}
use mathlib.Core.Path.{refl}
use Rattle.relation.specs.Lowest.{lowest_of}
use borrow.Author.Rules.{rules}
use Rattle.steps.proofs.lowest.Goals as goal

pub overflow_cast-result : goal.overflow_cast-result
overflow_cast-result c = let h = trailing_le 32 c.args.set in search rules

pub returns : goal.returns
unfolding lowest_of
returns c = (refl, trailing_le 32 c.args.set)
