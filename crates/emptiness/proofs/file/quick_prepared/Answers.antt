-- `emptiness::file::quick_prepared` meets its contract: by the automaton's least sets.
-- Assumes nothing.
use mathlib.Core.Path.{sym, ap, ◌∙◌}
use Rattle.emptiness.specs.Checked.{clear_or}
use Rattle.emptiness.proofs.file.quick_prepared.Goals as goal

pub returns-then-is_clear : goal.returns-then-is_clear
returns-then-is_clear c = λ A k. ap clear_or (sym c.if-is_clear.true ∙ c.is_clear.ensures A k)

pub returns-else-is_clear : goal.returns-else-is_clear
returns-else-is_clear c = λ A k. ap clear_or (sym c.if-is_clear.false ∙ c.is_clear.ensures A k)
