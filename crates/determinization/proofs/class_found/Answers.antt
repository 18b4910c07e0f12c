-- `determinization::class_found` meets its contract.
-- Assumes nothing.
use native.Mathlib.Omega.{arith}
use Rattle.determinization.proofs.class_found.Goals as goal

pub returns-then-is_class : goal.returns-then-is_class
returns-then-is_class c = λ small. c.is_class.ensures c.if-is_class.true

pub returns : goal.returns
returns c = λ small. absurd (omega arith)
