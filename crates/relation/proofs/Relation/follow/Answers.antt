-- `relation::Relation::follow` meets its contract: each row, with the image of those of its states that are left, is that of `composed`.
-- Assumes nothing.
use borrow.Author.Rules.{rules}
use mathlib.Core.Path.{◌≡◌, refl, subst}
use native.Mathlib.Omega.{arith}
use lib.ListN.{length, get_or}
use Rattle.relation.proofs.Over.{over_done}
use Rattle.relation.proofs.Members.{lowest-row, rest-falls}
use Rattle.relation.proofs.Members.{columned, length-columned, column-turn, Columns, columns-start, columns-step, columns-done}
use Rattle.relation.proofs.Relation.follow.Goals as goal

pub loop-rest-init : goal.loop-rest-init
loop-rest-init c = columns-start c.args.self.rows c.args.other.now _ c.occupied_in-rest.ensures

pub offset_bounds-other-q : goal.offset_bounds-other-q
offset_bounds-other-q c = omega (arith, lowest-row c.loop-rest.invariant.small c.lowest-q.ensures (omega arith))

pub bounds-other-q : goal.bounds-other-q
bounds-other-q c =
    let start = c in
    omega (arith, start.requires, lowest-row c.loop-rest.invariant.small c.lowest-q.ensures (omega arith))

pub loop-p-init : goal.loop-p-init
loop-p-init c = (search rules, refl)

pub overflow_cast-q : goal.overflow_cast-q
overflow_cast-q c =
    let at = c.loop-rest in
    let l = lowest-row at.invariant.small c.lowest-q.ensures (omega arith) in search rules

pub overflow_shr-self : goal.overflow_shr-self
overflow_shr-self c =
    let at = c.loop-rest in
    omega (arith, lowest-row at.invariant.small c.lowest-q.ensures (omega arith))

pub loop-p-preserved : goal.loop-p-preserved
loop-p-preserved c =
    let at = c.loop-p in
    let out = c.loop-rest in
    let a = c.args.self.rows in
    let q = c.lowest-q in
    let l = out.invariant.size in (
      search rules,
      column-turn q.result _ a out.out at.out at.p c.or_if.result (omega arith) at.invariant.1 c.or_if.ensures,
    )

pub loop-rest-smaller : goal.loop-rest-smaller
loop-rest-smaller c = rest-falls c.loop-rest.invariant.small c.without_lowest-rest.ensures (omega arith)

pub loop-rest-preserved : goal.loop-rest-preserved
loop-rest-preserved c =
    let at = c.loop-rest in
    let in2 = c.loop-p in
    let a = c.args.self.rows in
    let b = c.args.other.now in
    let k = c.lowest-q in
    let r = c.without_lowest-rest in
    let row = get_or b k.result 0 in
    let l = at.invariant.size in
    columns-step a b at.out in2.out at.rest k.result r.result (omega arith) k.ensures r.ensures
    (over_done (columned k.result row a at.out) at.out in2.out in2.p (length-columned k.result row a at.out) (omega arith)
    in2.invariant.1)
    at.invariant

pub returns : goal.returns
returns c =
    let at = c.loop-rest in
    let a = c.args.self.rows in
    let b = c.args.other.now in
    let la : length a ≡ 24 = search rules in
    let z : at.rest ≡ 0 = omega arith in
    columns-done a b at.out la (subst (Columns a b at.out) z at.invariant)
