-- `bottom_up::verdict_with` meets its contract.
-- Assumes nothing.
use mathlib.Core.Path.{sym, ◌∙◌}
use Rattle.bottom_up.proofs.verdict_with.Goals as goal

pub returns-then-accepted : goal.returns-then-accepted
returns-then-accepted c = λ A sg s t w e g. (t, w, sym e ∙ c.if-accepted.true, g)

pub returns-else-accepted : goal.returns-else-accepted
returns-else-accepted c = λ A sg s t w e g. (t, w, sym e ∙ c.if-accepted.false, g)
