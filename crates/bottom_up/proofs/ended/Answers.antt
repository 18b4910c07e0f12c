-- `bottom_up::ended` meets its contract.
-- Assumes nothing.
use Rattle.passes.proofs.Laws.{leaf-ended}
use Rattle.bottom_up.proofs.Ending.{parts-ended}
use mathlib.Core.Path.{sym, ◌∙◌}
use native.Mathlib.Omega.{arith}
use Rattle.bottom_up.proofs.ended.Goals as goal

pub returns-then-is_branch : goal.returns-then-is_branch
returns-then-is_branch c = (λ A cache leaves words s h. parts-ended A _ _ _ _ _ cache leaves words s _ _ _ h c.if-top-ne126.false (omega (arith, c.if-header-symbol.false)) (sym c.is_branch.ensures ∙ c.if-is_branch.true) c.height_over.ensures (omega arith) c.id.ensures.0 c.id-then-is_branch.ensures.0 (omega (arith, c.growth_of.ensures.0)), omega (arith, c.growth_of.ensures.1))

pub returns : goal.returns
returns c = (λ A cache leaves words s h. (c.args.symbol.0, (leaf-ended _ _ words s _ h.stacked c.if-top-ne128.false (omega (arith, c.if-header-symbol.false)) (sym c.is_branch.ensures ∙ c.if-is_branch.false)).0), tt)
