-- `interchange::entered_by` meets its contract: a state that is entered at some place is in the set.
-- Assumes nothing.
use Rattle.model.specs.declared.Place.{Place}
use Rattle.model.specs.declared.Move.{Move}
use Rattle.algorithms.specs.Overloops.{moves}
use Rattle.interchange.proofs.Laws.{leads_any}
use Rattle.interchange.proofs.entered_by.Goals as goal

pub returns : goal.returns
returns c =
    λ A k.
    let a = c.args in
    leads_any _ _ _ (λ (τ : Place). moves A a.symbol.0 τ (Move.Down a.side)) (c.entered_at-root.ensures A k) (c.entered_at-left.ensures A k)
    (c.entered_at-right.ensures A k)
