-- `judging::judged_of` meets its contract.
-- Assumes nothing.
use Rattle.judging.proofs.judged_of.Goals as goal

pub returns-in-Accepted : goal.returns-in-Accepted
returns-in-Accepted c = λ A sums k h. rw c.in-Accepted.is at h

pub returns-in-Other : goal.returns-in-Other
returns-in-Other c = λ A sums k h. rw c.in-Other.is at h

pub returns-in-Unknown : goal.returns-in-Unknown
returns-in-Unknown c = λ A sums k h. let all = c.judge_file.ensures A k in (all.0, λ e. all.1)
