-- `overloops::leaf_overloops` meets its contract: the rows of a table of leaves are their overloops.
-- Assumes nothing.
use mathlib.Core.Path.{◌∙◌}
use Rattle.overloops.proofs.Laws.{leaf-are}
use Rattle.overloops.proofs.leaf_overloops.Goals as goal

pub returns : goal.returns
returns c = λ A P k. rw c.leaf_cell.ensures.0 at c.rows_at.ensures ∙ leaf-are A P _ _ _ c.requires k
