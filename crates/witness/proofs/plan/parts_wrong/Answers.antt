-- `witness::plan::parts_wrong` meets its contract.
-- Assumes nothing.
use native.Mathlib.Omega.{arith}
use borrow.Author.Tests.{eq-eqb, ne_eqb, le-leb, lt-leb}
use Rattle.witness.specs.Plan.{parts_wrong}
use Rattle.witness.proofs.plan.parts_wrong.Goals as goal

pub returns-then-row-left : goal.returns-then-row-left
unfolding parts_wrong
returns-then-row-left c =
    let a = c.args in
    rw (c.if-branch.true, le-leb a.row.0 a.left (omega (arith, c.if-row-left.true)))

pub returns-then-branch : goal.returns-then-branch
unfolding parts_wrong
returns-then-branch c =
    let a = c.args in
    rw (c.if-branch.true, lt-leb a.row.0 a.left (omega (arith, c.if-row-left.false)))

pub returns-then-left-ne255 : goal.returns-then-left-ne255
unfolding parts_wrong
returns-then-left-ne255 c = rw (c.if-branch.false, ne_eqb _ _ c.if-left-ne255.true)

pub returns : goal.returns
unfolding parts_wrong
returns c = rw (c.if-branch.false, eq-eqb _ _ c.if-left-ne255.false)
