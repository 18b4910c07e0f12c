-- `agreement::common_bytes` meets its contract. The invariant: what is left from byte `at` on gives the answer.
-- Assumes nothing.
use Rattle.agreement.proofs.Agreeing.{searched-begins, searched-differs, searched-on, searched-all}
use Rattle.agreement.proofs.common_bytes.Goals as goal

pub loop-at-init : goal.loop-at-init
loop-at-init c = searched-begins _ _ _ c.min-end.ensures

pub returns-then-first-at : goal.returns-then-first-at
returns-then-first-at c = searched-differs _ _ _ _ c.loop-at.invariant c.loop-at-test.true c.if-first-at.true

pub loop-at-preserved : goal.loop-at-preserved
loop-at-preserved c = searched-on _ _ _ _ c.loop-at.invariant c.loop-at-test.true c.if-first-at.false

pub returns : goal.returns
returns c = searched-all _ _ _ _ c.loop-at.invariant c.loop-at-test.false c.loop-at.auto.at-end
