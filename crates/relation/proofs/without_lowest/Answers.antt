-- `relation::without_lowest` meets its contract, by the law of `set & (set - 1)`.
-- Assumes nothing.
use borrow.Author.Rules.{rules}
use Rattle.relation.proofs.LowestLaws.{and-rest}
use Rattle.relation.proofs.without_lowest.Goals as goal

pub returns : goal.returns
returns c = and-rest c.args.set (search rules) (search rules)
