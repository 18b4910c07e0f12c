-- `judging::credit::renew` meets its contract.
-- Assumes nothing.
use Rattle.judging.proofs.Laws.{cleared, renewed}
use mathlib.Core.Path.{refl}
use Rattle.judging.proofs.credit.renew.Goals as goal

pub returns : goal.returns
returns c = (
  refl,
  refl,
  λ A store k. renewed A _ store _ _ _ _ 1024 k (cleared _ _ (c.fill.ensures.after (λ y e. e)))
      (cleared _ _ (c.fill-2.ensures.after (λ y e. e))),
)
