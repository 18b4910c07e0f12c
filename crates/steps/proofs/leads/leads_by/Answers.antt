-- `steps::leads::leads_by` meets its contract: the node first, and then the transitions' cell.
-- Assumes nothing.
use Prim.Native.Nat.{ℕ}
use mathlib.Core.Path.{sym, ap, ◌∙◌}
use lib.ListN.{get_or}
use Rattle.relation.specs.Sets.{member}
use Rattle.steps.specs.Choices.{Makes}
use Rattle.steps.specs.Successors.{goes}
use Rattle.steps.specs.Leads.{arrives}
use Rattle.steps.proofs.Leading.{elsewhere, arrived}
use Rattle.steps.proofs.leads.leads_by.Goals as goal

pub returns-then-not-moves : goal.returns-then-not-moves
returns-then-not-moves c = elsewhere _ _ (sym (c.moves.ensures c.args.to.state.0) ∙ c.if-not-moves.true)

pub returns : goal.returns
returns c =
    let a = c.args in
    arrived (arrives (goes a.parents.now a.rights.now a.from.node (Makes a.step a.to.state.0)) a.to.node) _ (sym (c.moves.ensures a.to.state.0) ∙ c.if-not-moves.false)
    (c.contains.ensures ∙ ap (λ (k : ℕ). member (get_or a.table.now k 0) a.to.state.0) c.cell-cell.ensures.0)
