-- `indexing::carried` meets its contract.
-- Assumes nothing.
use Rattle.model.specs.declared.Move.{Move}
use Rattle.overloops.proofs.Laws.{moves-are}
use mathlib.Core.Path.{◌∙◌}
use Rattle.indexing.proofs.carried.Goals as goal

pub returns : goal.returns
returns c = λ A k. let e = rw c.cell.ensures.0 at c.rows_at.ensures ∙ moves-are A c.args.table.now c.args.symbol.0 c.args.place (Move.Down c.args.side) c.requires k in rw (← e) c.follow.ensures
