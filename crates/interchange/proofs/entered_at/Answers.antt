-- `interchange::entered_at` meets its contract: the rows are those of the transitions.
-- Assumes nothing.
use mathlib.Core.Path.{sym}
use Rattle.model.specs.declared.Move.{Move}
use Rattle.overloops.proofs.Laws.{moves-are}
use borrow.Author.Rules.{rules}
use Rattle.interchange.proofs.entered_at.Goals as goal

pub returns : goal.returns
returns c =
    λ A k.
    let a = c.args in
    rw (sym (moves-are A a.table.now a.symbol.0 a.place (Move.Down a.side) (search rules) k), ← c.cell.ensures.0) c.targets.ensures
