-- `candidates::try_if_branch` meets its contract: the candidates of the symbol, or none.
-- Assumes nothing.
use borrow.Author.Rules.{rules}
use Rattle.algorithms.specs.Saturate.{algebra_of}
use Rattle.candidates.specs.Tries.{over_rows}
use Rattle.classes.proofs.Symbols.{in-set, not-in-set}
use Rattle.candidates.proofs.Trying.{of_one, of_none}
use Rattle.candidates.proofs.Skipping.{branch_in}
use Rattle.candidates.proofs.try_if_branch.Goals as goal

pub returns-then-is_branch : goal.returns-then-is_branch
returns-then-is_branch c = (
  c.try_lefts.ensures.0,
  λ A k base before h e s l.
      let test = c.is_branch.ensures in
      let taken = c.if-is_branch.true in
      of_one A (over_rows (algebra_of A) base _ _) _ (in-set _ _ test taken).0 (c.try_lefts.ensures.1 A k base before h e s (branch_in A _ _ k _ l test taken)),
)

pub returns-else-is_branch : goal.returns-else-is_branch
returns-else-is_branch c = (search rules, λ A k base before h e s l. of_none A (over_rows (algebra_of A) base _ _) (not-in-set _ _ c.is_branch.ensures c.if-is_branch.false).0 h)
