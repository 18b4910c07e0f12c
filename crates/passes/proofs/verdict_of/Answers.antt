-- `passes::verdict_of` meets its contract.
-- Assumes nothing.
use mathlib.Core.Path.{sym, ◌∙◌}
use Rattle.passes.proofs.verdict_of.Goals as goal

pub returns-then-accepted : goal.returns-then-accepted
returns-then-accepted c = λ A sg s t w e. (t, w, sym e ∙ c.if-accepted.true)

pub returns-else-accepted : goal.returns-else-accepted
returns-else-accepted c = λ A sg s t w e. (t, w, sym e ∙ c.if-accepted.false)
