-- `tree::file::is_clear` meets its contract: the header's zero byte, and the bytes after the payload, are all that line 6 asks for.
-- Assumes nothing.
use borrow.Author.Tests.{eqb-true}
use Rattle.tree.proofs.Unpacking.{clear-passes}
use Rattle.tree.proofs.file.is_clear.Goals as goal

pub returns-then-content-eq0 : goal.returns-then-content-eq0
returns-then-content-eq0 c e = clear-passes _ _ c.if-content-eq0.true (c.is_zero_from.ensures e)

pub returns-else-content-eq0 : goal.returns-else-content-eq0
returns-else-content-eq0 c e = absurd (c.if-content-eq0.false (eqb-true _ _ e))
