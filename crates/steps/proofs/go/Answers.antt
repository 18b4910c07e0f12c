-- `steps::go` meets its contract: the tests in turn.
-- Assumes nothing.
use borrow.Author.Tests.{lt-ltb, le-ltb}
use native.Mathlib.Omega.{arith}
use Rattle.steps.specs.Choices.{decoded}
use Rattle.steps.proofs.go.Goals as goal

pub returns-then-code-lt32 : goal.returns-then-code-lt32
unfolding decoded
returns-then-code-lt32 c = rw (lt-ltb _ 32 c.if-code-lt32.true)

pub returns-then-code-lt64 : goal.returns-then-code-lt64
returns-then-code-lt64 c = c.up.ensures _

pub returns-then-code-lt128 : goal.returns-then-code-lt128
returns-then-code-lt128 c = c.down.ensures _

pub returns : goal.returns
unfolding decoded
returns c = let k = c.args.code in rw (le-ltb k 32 (omega (arith, c.if-code-lt128.false)), le-ltb k 64 (omega (arith, c.if-code-lt128.false)), le-ltb k 96 (omega (arith, c.if-code-lt128.false)), le-ltb k 128 (omega (arith, c.if-code-lt128.false)))
