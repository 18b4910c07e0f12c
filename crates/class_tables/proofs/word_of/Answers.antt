-- `class_tables::word_of` meets its contract.
-- Assumes nothing.
use Rattle.class_tables.proofs.Keeping.{word-right}
use Rattle.class_tables.proofs.word_of.Goals as goal

pub returns : goal.returns
returns c = λ A counts store k l r. rw (c.word_under.ensures, c.key_of.ensures.0, c.index_of-l.ensures.0, c.index_of-r.ensures.0) (word-right A counts store _ _ k _ _ _ _ c.requires.0 l r)
