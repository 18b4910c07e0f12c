-- `class_tables::word_under` meets its contract.
-- Assumes nothing.
use Rattle.class_tables.proofs.Keeping.{of-key, of_other}
use Rattle.std.proofs.Common.{sym}
use Rattle.class_tables.proofs.word_under.Goals as goal

pub returns-then-cell-key : goal.returns-then-cell-key
returns-then-cell-key c = sym (of-key _ _ c.if-cell-key.true)

pub returns : goal.returns
returns c = sym (of_other _ _ c.if-cell-key.false)
