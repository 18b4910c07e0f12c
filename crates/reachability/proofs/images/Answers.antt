-- `reachability::images` meets its contract. The invariant: of the states that are not left the rows are joined, by each move.
-- Assumes nothing.
-- the lowest state left is below 24
use Prim.Native.Nat.{◌<◌}
use native.Mathlib.Omega.{arith}
use mathlib.Core.Path.{◌≡◌, refl}
use Rattle.relation.proofs.Members.{lowest-row, rest-falls}
use Rattle.reachability.proofs.Imaging.{joining-none, joining-more, joining-done}
use Rattle.reachability.proofs.images.Goals as goal

pub loop-rest-init : goal.loop-rest-init
loop-rest-init c = (joining-none _ _ _, joining-none _ _ _, joining-none _ _ _, joining-none _ _ _)

pub overflow_add-row : goal.overflow_add-row
overflow_add-row c =
    let lowest-small : c.lowest.result < 24 = lowest-row c.loop-rest.invariant.0.small c.lowest.ensures (omega (arith, c.loop-rest-test.true)) in
    omega (arith, lowest-small)

pub offset_bounds-table-row : goal.offset_bounds-table-row
offset_bounds-table-row c =
    let lowest-small : c.lowest.result < 24 = lowest-row c.loop-rest.invariant.0.small c.lowest.ensures (omega (arith, c.loop-rest-test.true)) in
    omega (arith, lowest-small)

pub bounds-table-row : goal.bounds-table-row
bounds-table-row c =
    let lowest-small : c.lowest.result < 24 = lowest-row c.loop-rest.invariant.0.small c.lowest.ensures (omega (arith, c.loop-rest-test.true)) in
    omega (arith, lowest-small)

pub overflow_add-up : goal.overflow_add-up
overflow_add-up c =
    let lowest-small : c.lowest.result < 24 = lowest-row c.loop-rest.invariant.0.small c.lowest.ensures (omega (arith, c.loop-rest-test.true)) in
    omega (arith, lowest-small)

pub offset_bounds-table-row-in-loop-rest : goal.offset_bounds-table-row-in-loop-rest
offset_bounds-table-row-in-loop-rest c =
    let lowest-small : c.lowest.result < 24 = lowest-row c.loop-rest.invariant.0.small c.lowest.ensures (omega (arith, c.loop-rest-test.true)) in
    omega (arith, lowest-small)

pub bounds-table-row-in-loop-rest : goal.bounds-table-row-in-loop-rest
bounds-table-row-in-loop-rest c =
    let lowest-small : c.lowest.result < 24 = lowest-row c.loop-rest.invariant.0.small c.lowest.ensures (omega (arith, c.loop-rest-test.true)) in
    omega (arith, lowest-small)

pub overflow_add-left : goal.overflow_add-left
overflow_add-left c =
    let lowest-small : c.lowest.result < 24 = lowest-row c.loop-rest.invariant.0.small c.lowest.ensures (omega (arith, c.loop-rest-test.true)) in
    omega (arith, lowest-small)

pub offset_bounds-table-row-in-loop-rest-2 : goal.offset_bounds-table-row-in-loop-rest-2
offset_bounds-table-row-in-loop-rest-2 c =
    let lowest-small : c.lowest.result < 24 = lowest-row c.loop-rest.invariant.0.small c.lowest.ensures (omega (arith, c.loop-rest-test.true)) in
    omega (arith, lowest-small)

pub bounds-table-row-in-loop-rest-2 : goal.bounds-table-row-in-loop-rest-2
bounds-table-row-in-loop-rest-2 c =
    let lowest-small : c.lowest.result < 24 = lowest-row c.loop-rest.invariant.0.small c.lowest.ensures (omega (arith, c.loop-rest-test.true)) in
    omega (arith, lowest-small)

pub overflow_add-right : goal.overflow_add-right
overflow_add-right c =
    let lowest-small : c.lowest.result < 24 = lowest-row c.loop-rest.invariant.0.small c.lowest.ensures (omega (arith, c.loop-rest-test.true)) in
    omega (arith, lowest-small)

pub offset_bounds-table-row-in-loop-rest-3 : goal.offset_bounds-table-row-in-loop-rest-3
offset_bounds-table-row-in-loop-rest-3 c =
    let lowest-small : c.lowest.result < 24 = lowest-row c.loop-rest.invariant.0.small c.lowest.ensures (omega (arith, c.loop-rest-test.true)) in
    omega (arith, lowest-small)

pub bounds-table-row-in-loop-rest-3 : goal.bounds-table-row-in-loop-rest-3
bounds-table-row-in-loop-rest-3 c =
    let lowest-small : c.lowest.result < 24 = lowest-row c.loop-rest.invariant.0.small c.lowest.ensures (omega (arith, c.loop-rest-test.true)) in
    omega (arith, lowest-small)

pub loop-rest-smaller : goal.loop-rest-smaller
loop-rest-smaller c = rest-falls c.loop-rest.invariant.0.small c.without_lowest-rest.ensures (omega (arith, c.loop-rest-test.true))

pub loop-rest-preserved : goal.loop-rest-preserved
loop-rest-preserved c =
    let l = c.loop-rest in
    let k = c.lowest in
    let r = c.without_lowest-rest in
    let some : 0 < l.rest = omega (arith, c.loop-rest-test.true) in (
      joining-more _ _ _ k.result r.result _ some k.ensures r.ensures refl l.invariant.0,
      joining-more _ _ _ k.result r.result _ some k.ensures r.ensures (omega arith) l.invariant.1,
      joining-more _ _ _ k.result r.result _ some k.ensures r.ensures (omega arith) l.invariant.2,
      joining-more _ _ _ k.result r.result _ some k.ensures r.ensures (omega arith) l.invariant.3,
    )

pub returns : goal.returns
returns c =
    let l = c.loop-rest in
    let z : l.rest ≡ 0 = omega (arith, c.loop-rest-test.false) in
    (joining-done _ _ _ z l.invariant.0, joining-done _ _ _ z l.invariant.1, joining-done _ _ _ z l.invariant.2, joining-done _ _ _ z l.invariant.3)
