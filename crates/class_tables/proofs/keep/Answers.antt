-- `class_tables::keep` meets its contract.
-- Assumes nothing.
use Rattle.class_tables.proofs.Keeping.{word_more}
use Rattle.std.proofs.Common.{arith, rules}
use Rattle.class_tables.proofs.keep.Goals as goal

pub returns : goal.returns
returns c = λ A counts store k l r i n. rw (c.key_of.ensures.0, c.index_of-l.ensures.0, c.index_of-r.ensures.0) (word_more A counts store _ _ k _ _ _ _ _ c.place_near-place.ensures c.requires.0 l r (omega (arith, c.if-l-eq0.false, c.index_of-l.ensures.0)) (omega (arith, c.if-r-eq0.false, c.index_of-r.ensures.0)) (search rules) i n)
