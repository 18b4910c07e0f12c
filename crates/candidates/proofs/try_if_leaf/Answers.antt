-- `candidates::try_if_leaf` meets its contract.
-- Assumes nothing.
use borrow.Author.Rules.{rules}
use mathlib.Core.List.{[], ◌∷◌}
use Rattle.model.specs.Saturation.{leaf_candidate}
use Rattle.algorithms.specs.Saturate.{algebra_of}
use Rattle.classes.proofs.Symbols.{in-set, not-in-set}
use Rattle.candidates.proofs.Trying.{of_one, of_none}
use Rattle.candidates.proofs.try_if_leaf.Goals as goal

pub returns-then-is_branch : goal.returns-then-is_branch
returns-then-is_branch c = (search rules, λ A k base before h. of_none A (λ σ. leaf_candidate (algebra_of A) σ ∷ []) (in-set _ _ c.is_branch.ensures c.if-is_branch.true).1 h)

pub returns-else-is_branch : goal.returns-else-is_branch
returns-else-is_branch c = (
  c.try_leaf.ensures.0,
  λ A k base before h.
      of_one A (λ σ. leaf_candidate (algebra_of A) σ ∷ []) _ (not-in-set _ _ c.is_branch.ensures c.if-is_branch.false).1
      (c.try_leaf.ensures.1 A k base before h),
)
