-- `counting::count_all` meets its contract: each turn counts one answer.
-- Assumes nothing.
use Rattle.std.proofs.Common.{sym, ◌∙◌}
use Rattle.counting.proofs.Turns.{turn-taken, turn-ends}
use Rattle.counting.proofs.count_all.Goals as goal

pub loop-i-preserved : goal.loop-i-preserved
loop-i-preserved c = c.loop-i.invariant ∙ rw (c.count.ensures.0, c.outcome_of.ensures) (turn-taken _ _ _ c.loop-i-test.true)

pub returns : goal.returns
returns c = sym (c.loop-i.invariant ∙ turn-ends _ _ _ c.loop-i-test.false)
