-- `bottom_up::steps::node_step` meets its contract.
-- Assumes nothing.
use mathlib.Core.Path.{sym, ◌∙◌}
use native.Mathlib.Omega.{arith}
use Rattle.bottom_up.proofs.steps.node_step.Goals as goal

pub returns-then-header-symbol : goal.returns-then-header-symbol
returns-then-header-symbol c = (λ A s k h. h.cached, tt)

pub returns-then-is_branch : goal.returns-then-is_branch
returns-then-is_branch c = (λ A s k h. c.branch_step.ensures.0 A _ _ s k (omega (arith, c.if-header-symbol.false)) (sym c.is_branch.ensures ∙ c.if-is_branch.true) h, c.branch_step.ensures.1)

pub returns-else-is_branch : goal.returns-else-is_branch
returns-else-is_branch c = (λ A s k h. c.leaf_step.ensures.0 A _ s k (omega (arith, c.if-header-symbol.false)) (sym c.is_branch.ensures ∙ c.if-is_branch.false) h, c.leaf_step.ensures.1)
