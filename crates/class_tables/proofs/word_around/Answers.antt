-- `class_tables::word_around` meets its contract.
-- Assumes nothing.
use Rattle.class_tables.specs.Cache.{classes, Right}
use Rattle.class_tables.proofs.Keeping.{word-right}
use Rattle.class_tables.proofs.word_around.Goals as goal

pub returns : goal.returns
returns c = λ A counts store k l r some. let f = c.word_near.ensures some in let x : Right A (classes counts) store c.args.symbol.0 c.args.left c.args.right c.word_near.result = rw (f.1, c.key_of.ensures.0, c.index_of-l.ensures.0, c.index_of-r.ensures.0) (word-right A counts store _ _ k f.0 _ _ _ c.requires.0 l r) in x some
