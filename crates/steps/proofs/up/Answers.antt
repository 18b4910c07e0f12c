-- `steps::up` meets its contract: the byte is one of a move up.
-- Assumes nothing.
use borrow.Author.Tests.{eq-eqb, ne_eqb, lt-ltb, le-ltb}
use native.Mathlib.Omega.{arith}
use Rattle.steps.specs.Choices.{decoded}
use Rattle.steps.proofs.up.Goals as goal

pub returns-then-node-eq0 : goal.returns-then-node-eq0
unfolding decoded
returns-then-node-eq0 c = let q = c.requires in λ rights. rw (le-ltb _ 32 q.1, lt-ltb _ 64 q.2, eq-eqb _ 0 c.if-node-eq0.true)

pub overflow_cast-parent : goal.overflow_cast-parent
overflow_cast-parent c = omega (arith, c.type_inv.parents c.args.node)

pub returns : goal.returns
unfolding decoded
returns c = let q = c.requires in λ rights. rw (le-ltb _ 32 q.1, lt-ltb _ 64 q.2, ne_eqb _ 0 c.if-node-eq0.false)
