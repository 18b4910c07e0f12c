-- `steps::step` meets its contract: the cell of the node's symbol and place, and where its byte leads.
-- Assumes nothing.
use Prim.Native.Nat.{ℕ}
use mathlib.Core.Path.{ap, ◌∙◌}
use lib.ListN.{get_or}
use Rattle.model.specs.declared.Place.{Place}
use Rattle.steps.specs.Choices.{decoded, choice_cell}
use Rattle.steps.specs.Successors.{goes}
use Rattle.steps.proofs.step.Goals as goal

pub returns : goal.returns
returns c =
    let a = c.args in
    c.go.ensures
    ∙ ap (λ (k : ℕ). goes a.parents.now a.rights.now a.from.node (decoded (get_or a.choices.now k 0)))
    (c.choice_cell-cell.ensures.0
    ∙ ap (λ (τ : Place). choice_cell (get_or a.nodes.now a.from.node 0) τ a.from.state.0) c.place_at-place.ensures)
