-- `class_tables::word_near` meets its contract.
-- Assumes nothing.
use Rattle.std.proofs.Common.{arith}
use Rattle.class_tables.proofs.word_near.Goals as goal

pub returns-then-word-ne0 : goal.returns-then-word-ne0
returns-then-word-ne0 c = λ some. (_, c.word_under-word.ensures)

pub returns : goal.returns
returns c = λ some. absurd (omega arith)
