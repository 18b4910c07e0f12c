-- `judging::credit::end` meets its contract.
-- Assumes nothing.
use Rattle.judging.proofs.Laws.{kept_set}
use native.Mathlib.Omega.{arith}
use Rattle.judging.proofs.credit.end.Goals as goal

pub returns : goal.returns
returns c = kept_set _ 4 _ (omega arith)
