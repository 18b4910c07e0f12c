-- `judging::credit::begin` meets its contract.
-- Assumes nothing.
use Rattle.judging.proofs.Laws.{kept_set}
use native.Mathlib.Omega.{arith}
use Rattle.judging.proofs.credit.begin.Goals as goal

pub returns-then-credit-lt256 : goal.returns-then-credit-lt256
returns-then-credit-lt256 c = kept_set _ 4 _ (omega arith)

pub returns : goal.returns
returns c = kept_set _ 3 _ (omega arith)
