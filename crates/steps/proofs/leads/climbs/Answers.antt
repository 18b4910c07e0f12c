-- `steps::leads::climbs` meets its contract: the root has no parent.
-- Assumes nothing.
use native.Mathlib.Omega.{arith}
use borrow.Author.Tests.{eq-eqb, ne_eqb}
use Rattle.steps.proofs.leads.climbs.Goals as goal

pub returns-then-node-eq0 : goal.returns-then-node-eq0
returns-then-node-eq0 c = λ rights q. rw (eq-eqb _ 0 c.if-node-eq0.true)

pub overflow_cast-result : goal.overflow_cast-result
overflow_cast-result c = omega (arith, c.type_inv.parents c.args.node)

pub returns : goal.returns
returns c = λ rights q. rw (ne_eqb _ 0 c.if-node-eq0.false)
