-- `agreement::common_bytes` meets its contract. The invariant: what is left from byte `at` on gives the answer.
-- Assumes nothing.
use Rattle.agreement.proofs.Agreeing.{Searched}
use Rattle.agreement.proofs.common_bytes.Given as goal

abbrev pub invariant-loop-at : goal.invariant-loop-at
invariant-loop-at l = Searched l.first l.second l.end l.at
