-- `judging::accepts_file` meets its contract.
-- Assumes nothing.
use Rattle.judging.proofs.accepts_file.Goals as goal

pub returns : goal.returns
returns c = λ A k. c.answer_of.ensures A k (c.by_search.ensures A k)
