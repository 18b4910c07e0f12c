-- `linking::node_step` meets its contract.
-- Assumes nothing.
use mathlib.Core.Path.{sym, ◌∙◌}
use native.Mathlib.Omega.{arith}
use Rattle.linking.proofs.node_step.Goals as goal

pub returns-then-is_branch : goal.returns-then-is_branch
returns-then-is_branch c = λ n s e h. c.branch_step.ensures _ n _ s (omega (arith, c.if-signature-symbol.false)) (sym c.is_branch.ensures ∙ c.if-is_branch.true) e h

pub returns-else-is_branch : goal.returns-else-is_branch
returns-else-is_branch c = λ n s e h. c.leaf_step.ensures _ n _ _ s (omega (arith, c.if-signature-symbol.false)) (sym c.is_branch.ensures ∙ c.if-is_branch.false) e h
