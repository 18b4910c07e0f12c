-- `candidates::try_right` meets its contract: the candidate, or, in its place, one over an earlier right row.
-- Assumes nothing.
use borrow.Author.Rules.{rules}
use Rattle.candidates.proofs.Skipping.{right-skipped}
use Rattle.candidates.proofs.try_right.Goals as goal

pub returns-then-is_double : goal.returns-then-is_double
returns-then-is_double c = (search rules, λ A k base kept h la lb m s. right-skipped A _ _ _ h (c.is_double.ensures c.if-is_double.true A _ _ m lb) s)

pub returns-else-is_double : goal.returns-else-is_double
returns-else-is_double c = (c.try_node.ensures.0, λ A k base kept h la lb m s. c.try_node.ensures.1 A k base kept h la lb)
