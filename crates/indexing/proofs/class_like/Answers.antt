-- `indexing::class_like` meets its contract.
-- Assumes nothing.
use native.Mathlib.Omega.{arith}
use Rattle.indexing.proofs.class_like.Goals as goal

pub returns-then-is_like : goal.returns-then-is_like
returns-then-is_like c = λ small. c.is_like.ensures c.if-is_like.true

pub returns : goal.returns
returns c = λ small. absurd (omega arith)
