-- `judging::judge_with` meets its contract.
-- Assumes nothing.
use Rattle.judging.proofs.judge_with.Goals as goal

pub returns : goal.returns
returns c =
    λ A k h.
    let told = c.by_cache-weighed.ensures A k h in
    let judged = c.judged_of.ensures A _ k told.1 in
    (told.0, judged.0, judged.1)
