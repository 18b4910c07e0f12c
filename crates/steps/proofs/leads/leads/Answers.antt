-- `steps::leads::leads` meets its contract: the moves in turn.
-- Assumes nothing.
use lib.ListN.{get_or}
use Rattle.model.specs.declared.Side.TheVariants.{Left}
use Rattle.model.specs.declared.Move.TheVariants.{Stay, Up, Down}
use Rattle.transitions.specs.Compiled.{next_in}
use Rattle.steps.proofs.Leading.{found-move, last-move}
use Rattle.steps.proofs.leads.leads.Goals as goal

pub returns-then-leads_by : goal.returns-then-leads_by
returns-then-leads_by c =
    let a = c.args in
    found-move (next_in a.table.now) a.parents.now a.rights.now (get_or a.nodes.now a.from.node 0) c.place_at-place.ensures
    a.from.node a.from.state.0 a.to.node a.to.state.0 Stay c.leads_by.ensures c.if-leads_by.true

pub returns-then-leads_by-2 : goal.returns-then-leads_by-2
returns-then-leads_by-2 c =
    let a = c.args in
    found-move (next_in a.table.now) a.parents.now a.rights.now (get_or a.nodes.now a.from.node 0) c.place_at-place.ensures
    a.from.node a.from.state.0 a.to.node a.to.state.0 Up c.leads_by-2.ensures c.if-leads_by-2.true

pub returns-then-leads_by-3 : goal.returns-then-leads_by-3
returns-then-leads_by-3 c =
    let a = c.args in
    found-move (next_in a.table.now) a.parents.now a.rights.now (get_or a.nodes.now a.from.node 0) c.place_at-place.ensures
    a.from.node a.from.state.0 a.to.node a.to.state.0 (Down Left) c.leads_by-3.ensures c.if-leads_by-3.true

pub returns : goal.returns
returns c =
    let a = c.args in
    last-move (next_in a.table.now) a.parents.now a.rights.now (get_or a.nodes.now a.from.node 0) c.place_at-place.ensures
    a.from.node a.from.state.0 a.to.node a.to.state.0
    c.leads_by.ensures c.if-leads_by.false c.leads_by-2.ensures c.if-leads_by-2.false
    c.leads_by-3.ensures c.if-leads_by-3.false c.leads_by-4.ensures
