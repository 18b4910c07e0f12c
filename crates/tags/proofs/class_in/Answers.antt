-- `tags::class_in` meets its contract.
-- Assumes nothing.
use borrow.Author.Rules.{rules}
use Rattle.tags.specs.Classes.{IsTable}
use Rattle.tags.proofs.class_in.Goals as goal

pub returns : goal.returns
unfolding IsTable
returns c = c.requires c.args.b (search rules)
