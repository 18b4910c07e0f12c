-- `classes::Class::same` meets its contract: the left tables decide, or leave it to the right ones.
-- Assumes nothing.
use mathlib.Core.Path.{sym, ◌∙◌}
use Rattle.classes.proofs.Class.same.Goals as goal

pub returns-then-same : goal.returns-then-same
returns-then-same c = rw (sym c.same.ensures ∙ c.if-same.true) c.same-then-same.ensures

pub returns-else-same : goal.returns-else-same
returns-else-same c = rw (sym c.same.ensures ∙ c.if-same.false)
