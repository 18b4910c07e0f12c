-- `batch::part::judge_part` meets its contract.
-- Assumes nothing.
use Rattle.batch.proofs.part.judge_part.Goals as goal

pub returns : goal.returns
returns c =
    let e = c.weigh_part.ensures in
    (e.0, e.1, e.2, e.3, e.4, (λ A k h. let all = e.5 A k h in (all.0, all.1)), e.6)
