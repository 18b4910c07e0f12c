-- `judging::answer_of` meets its contract.
-- Assumes nothing.
use Rattle.judging.proofs.answer_of.Goals as goal

pub returns-in-Accepted : goal.returns-in-Accepted
returns-in-Accepted c = λ A k h. rw c.in-Accepted.is at h

pub returns-in-Other : goal.returns-in-Other
returns-in-Other c = λ A k h. rw c.in-Other.is at h

pub returns-in-Unknown : goal.returns-in-Unknown
returns-in-Unknown c = λ A k h. (c.judge_file-judged.ensures A k).0
