-- `judging::without_cache` meets its contract.
-- Assumes nothing.
use Rattle.refusal.proofs.Passed.{clash}
use Rattle.judging.proofs.without_cache.Goals as goal

pub returns : goal.returns
returns c = λ A k. (c.judge_nodes.ensures A k, λ e. clash (cc c.if-sums.false))
