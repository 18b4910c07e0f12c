-- `logs::prefix::is_start` meets its contract: the node first.
-- Assumes nothing.
use borrow.Author.Tests.{eq-eqb}
use Rattle.logs.proofs.prefix.is_start.Goals as goal

pub returns-then-entry-eq0 : goal.returns-then-entry-eq0
returns-then-entry-eq0 c = rw (eq-eqb _ 0 c.if-entry-eq0.true) c.contains.ensures
