-- `reachability::turn` meets its contract: the fresh states are taken, and their next states are added by the four moves.
-- Assumes nothing.
use native.Mathlib.Omega.{arith}
use mathlib.Core.Path.{◌∙◌}
use lib.ListN.{length-set}
use Rattle.transitions.proofs.Laws.{place-small}
use Rattle.reachability.proofs.Turning.{turned}
use Rattle.reachability.proofs.turn.Goals as goal

pub images-next-requires : goal.images-next-requires
images-next-requires c = omega (arith, c.cell-at.ensures.0, place-small c.place_at-place.result)

pub climb-height-requires : goal.climb-height-requires
climb-height-requires c = (omega arith, omega arith, simp length-set (omega arith), omega arith, omega arith)

pub descend-height-requires : goal.descend-height-requires
descend-height-requires c =
    let climbed = c in
    let start = climbed in
    let a = start.args in
    let pre = start.requires in (
      pre.1,
      omega (arith, pre.4, c.reached-1.given),
      omega (arith, pre.5, c.fresh-1.given, length-set a.fresh.now a.node 0),
      omega (arith, climbed.climb-height.ensures.0, c.waiting-1.given),
      omega (arith, pre.0, pre.3),
      omega (arith, pre.0, pre.1),
    )

pub add-requires : goal.add-requires
add-requires c =
    let descended = c in
    let climbed = descended in
    let start = climbed in
    let a = start.args in
    let pre = start.requires in (
      pre.1,
      omega (arith, pre.4, descended.reached-1.given, c.reached-2-1.given),
      omega (arith, pre.5, descended.fresh-1.given, c.fresh-2-1.given, length-set a.fresh.now a.node 0),
      omega (arith, descended.descend-height.ensures.0, descended.waiting-1.given, c.waiting-2-1.given),
    )

pub shape_of-fresh : goal.shape_of-fresh
shape_of-fresh c = c.fresh-3-1.given ∙ c.fresh-2-1.given ∙ c.fresh-1.given ∙ simp length-set

pub returns : goal.returns
returns c =
    let added = c in
    let descended = added in
    let climbed = descended in
    let next = climbed in
    let start = next in
    let a = start.args in
    let pre = start.requires in (
      omega (arith, added.add.ensures.0, descended.waiting-1.given, added.waiting-2-1.given),
      turned a.table.now a.symbols.now a.parents.now a.rights.now a.node (omega (arith, pre.0, pre.4)) (omega (arith, pre.0, pre.5))
          next.cell-at.ensures.0 next.place_at-place.ensures next.images-next.ensures
          climbed.climb-height.ensures.1 descended.descend-height.ensures.1 added.add.ensures.1,
    )
