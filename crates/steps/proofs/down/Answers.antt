-- `steps::down` meets its contract: the byte is one of a move down.
-- Assumes nothing.
use borrow.Author.Tests.{ne_eqb, lt-ltb, le-ltb}
use native.Mathlib.Omega.{arith}
use Rattle.steps.specs.Choices.{decoded}
use Rattle.steps.proofs.Choosing.{leaf-stays}
use Rattle.steps.proofs.down.Goals as goal

pub overflow_cast-right : goal.overflow_cast-right
overflow_cast-right c = omega (arith, c.type_inv.rights c.args.node)

pub returns-then-right-eq0 : goal.returns-then-right-eq0
returns-then-right-eq0 c = let q = c.requires in λ parents. leaf-stays parents _ _ _ q.2 q.3 c.if-right-eq0.true

pub returns-then-code-lt96 : goal.returns-then-code-lt96
unfolding decoded
returns-then-code-lt96 c = let q = c.requires in let k = c.args.code in λ parents. rw (le-ltb k 32 (omega (arith, q.2)), le-ltb _ 64 q.2, lt-ltb _ 96 c.if-code-lt96.true, ne_eqb _ 0 c.if-right-eq0.false)

pub returns : goal.returns
unfolding decoded
returns c = let q = c.requires in let k = c.args.code in λ parents. rw (le-ltb k 32 (omega (arith, q.2)), le-ltb _ 64 q.2, le-ltb k 96 (omega (arith, c.if-code-lt96.false)), lt-ltb _ 128 q.3, ne_eqb _ 0 c.if-right-eq0.false)
