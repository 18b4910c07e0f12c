-- `grammar::is_byte` meets its contract.
-- Assumes nothing.
use native.Mathlib.Omega.{arith}
use Rattle.grammar.proofs.Going.{byte-is}
use Rattle.grammar.proofs.is_byte.Goals as goal

pub returns-then-at-text : goal.returns-then-at-text
returns-then-at-text c = let a = c.args in byte-is a.text.now a.at a.b c.if-at-text.true

pub returns-else-at-text : goal.returns-else-at-text
returns-else-at-text c = λ h. absurd (omega arith)
