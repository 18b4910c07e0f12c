-- `witness::plan::row_wrong` meets its contract.
-- Assumes nothing.
use borrow.Author.Tests.{le-leb, lt-leb}
use Rattle.witness.specs.Plan.{row_wrong}
use Rattle.witness.proofs.plan.row_wrong.Goals as goal

pub returns-then-signature-symbol : goal.returns-then-signature-symbol
unfolding row_wrong
returns-then-signature-symbol c = rw (le-leb _ _ c.if-signature-symbol.true)

pub returns : goal.returns
unfolding row_wrong
returns c = rw (lt-leb _ _ c.if-signature-symbol.false, ← c.is_branch-branch.ensures) c.parts_wrong.ensures
