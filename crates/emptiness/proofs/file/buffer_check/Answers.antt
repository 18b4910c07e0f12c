-- `emptiness::file::buffer_check` meets its contract: the test picks the case.
-- Assumes nothing.
use Rattle.refusal.proofs.Cases.{checks}
use Rattle.emptiness.specs.Surveyed.{buffer_check}
use Rattle.emptiness.proofs.file.buffer_check.Goals as goal

pub returns-then-plan-lt195 : goal.returns-then-plan-lt195
unfolding buffer_check
returns-then-plan-lt195 c = search checks depth 7

pub returns : goal.returns
unfolding buffer_check
returns c = search checks depth 7
