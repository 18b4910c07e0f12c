-- `grammar::class_at` meets its contract.
-- Assumes nothing.
use borrow.Author.Tests.{lt-ltb, le-ltb}
use Rattle.grammar.specs.Reading.{class_at}
use Rattle.grammar.proofs.class_at.Goals as goal

pub class_in-requires : goal.class_in-requires
class_in-requires c = c.requires

pub returns-then-at-text : goal.returns-then-at-text
unfolding class_at
returns-then-at-text c = rw (lt-ltb _ _ c.if-at-text.true) c.class_in.ensures

pub returns-else-at-text : goal.returns-else-at-text
unfolding class_at
returns-else-at-text c = rw (le-ltb _ _ c.if-at-text.false)
