-- `witness::plan::length_wrong` meets its contract.
-- Assumes nothing.
use borrow.Author.Tests.{eq-eqb, ne_eqb}
use Rattle.witness.specs.Plan.{length_wrong}
use Rattle.witness.proofs.plan.length_wrong.Goals as goal

pub returns-then-n-eq0 : goal.returns-then-n-eq0
unfolding length_wrong
returns-then-n-eq0 c = rw (eq-eqb _ _ c.if-n-eq0.true)

pub returns-then-n-ne0 : goal.returns-then-n-ne0
unfolding length_wrong
returns-then-n-ne0 c = rw (ne_eqb _ _ c.if-n-eq0.false, ne_eqb _ _ c.if-n-ne0.true)

pub returns : goal.returns
unfolding length_wrong
returns c = rw (ne_eqb _ _ c.if-n-eq0.false, eq-eqb _ _ c.if-n-ne0.false)
