-- `overloops::moves` meets its contract: the rows of a compiled table are the pairs of the transitions.
-- Assumes nothing.
use mathlib.Core.Path.{◌∙◌}
use Rattle.overloops.proofs.Laws.{moves-are}
use Rattle.overloops.proofs.moves.Goals as goal

pub returns : goal.returns
returns c = λ A k. rw c.cell.ensures.0 at c.rows_at.ensures ∙ moves-are A _ _ _ _ c.requires k
