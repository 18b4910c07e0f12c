-- `batch::count_rest` meets its contract.
-- Assumes nothing.
use Rattle.tally.specs.declared.Tallied.{Tallied}
use borrow.Author.Tests.{eq-eqb, ne_eqb}
use mathlib.Core.Path.{refl, ap}
use Rattle.batch.proofs.count_rest.Goals as goal

pub returns-then-left-eq0 : goal.returns-then-left-eq0
returns-then-left-eq0 c = rw (eq-eqb _ 0 c.if-left-eq0.true) refl

pub returns : goal.returns
returns c = rw (ne_eqb _ 0 c.if-left-eq0.false) (ap (λ (x : Tallied). x.tally) c.counted-counted.ensures)
