-- `refusal::lines::must_be_zero` meets its contract: from 32 on every bit of a `u32` is 0.
-- Assumes nothing.
use borrow.Author.Tests.{ne_eqb}
use Rattle.refusal.specs.Lines.{must_be_zero}
use Rattle.refusal.proofs.Cases.{no-bit}
use Rattle.refusal.proofs.lines.must_be_zero.Goals as goal

pub returns-then-at-ge32 : goal.returns-then-at-ge32
unfolding must_be_zero
returns-then-at-ge32 c = rw (no-bit _ _ c.ranges.zeros.fits c.if-at-ge32.true)

pub returns-then-zeros-at-eq1 : goal.returns-then-zeros-at-eq1
unfolding must_be_zero
returns-then-zeros-at-eq1 c = rw c.if-zeros-at-eq1.true

pub returns-else-zeros-at-eq1 : goal.returns-else-zeros-at-eq1
unfolding must_be_zero
returns-else-zeros-at-eq1 c = simp (ne_eqb _ _ c.if-zeros-at-eq1.false)
