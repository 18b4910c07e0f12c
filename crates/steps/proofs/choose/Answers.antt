-- `steps::choose` meets its contract. The invariant: each cell that was passed has its choice.
-- Assumes nothing.
use native.Mathlib.Omega.{arith}
use mathlib.Core.Path.{refl}
use Rattle.steps.proofs.Choosing.{filled, filled_next}
use borrow.Author.Rules.{rules}
use Rattle.steps.proofs.choose.Goals as goal

pub loop-cell-init : goal.loop-cell-init
loop-cell-init c = (search rules, refl, λ k h. absurd (omega arith))

pub loop-cell-preserved : goal.loop-cell-preserved
loop-cell-preserved c = let l = c.loop-cell in (search rules, search rules, filled_next _ l.choices _ l.cell _ (search rules) c.code_at.ensures refl l.invariant.2)

pub returns : goal.returns
returns c = λ A proper compiled. filled A proper _ compiled _ _ (search rules) (λ k h. c.loop-cell.invariant.2 k (omega arith))
