-- `links::place_at` meets its contract.
-- Assumes nothing.
use borrow.Author.Tests.{eq-eqb, ne_eqb}
use native.Mathlib.Omega.{arith}
use Rattle.links.specs.Links.{place_in}
use Rattle.links.proofs.place_at.Goals as goal

pub returns-then-node-eq0 : goal.returns-then-node-eq0
unfolding place_in
returns-then-node-eq0 c = rw (eq-eqb _ 0 c.if-node-eq0.true)

pub overflow_cast-parents : goal.overflow_cast-parents
overflow_cast-parents c = omega (arith, c.type_inv.parents c.args.node)

pub overflow_add-parents : goal.overflow_add-parents
overflow_add-parents c = omega (arith, c.type_inv.parents c.args.node)

pub returns-then-parents-node : goal.returns-then-parents-node
unfolding place_in
returns-then-parents-node c = rw (ne_eqb _ 0 c.if-node-eq0.false, eq-eqb _ _ c.if-parents-node.true)

pub returns : goal.returns
unfolding place_in
returns c = rw (ne_eqb _ 0 c.if-node-eq0.false, ne_eqb _ _ c.if-parents-node.false)
