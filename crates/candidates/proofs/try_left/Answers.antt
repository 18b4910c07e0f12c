-- `candidates::try_left` meets its contract: the candidates over the left row, or, in their place, those over an earlier one.
-- Assumes nothing.
use borrow.Author.Rules.{rules}
use native.Mathlib.Omega.{arith}
use Rattle.candidates.proofs.Skipping.{left-skipped}
use Rattle.candidates.proofs.try_left.Goals as goal

pub returns-then-is_double : goal.returns-then-is_double
returns-then-is_double c = (
  search rules,
  λ A k base kept h e m s t. left-skipped A _ _ _ _ (search rules) h (c.is_double.ensures c.if-is_double.true A _ _ m (search rules)) t,
)

pub returns-else-is_double : goal.returns-else-is_double
returns-else-is_double c =
    let from = c.first_right-from.ensures in (
      c.try_rights.ensures.0,
      λ A k base kept h e m s t.
          rw (from.2 _) (c.try_rights.ensures.1 A k base kept h e m (λ b l. s b (from.1 (omega arith)) (omega (arith, from.0)))),
    )
