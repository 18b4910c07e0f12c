-- `reachability::search` meets its contract. The invariant: what is reached, and from what the steps are taken. The measure is the weight of the words.
-- Assumes nothing.
-- the words are as many as they were
-- the node that is taken is one of the tree
use native.Mathlib.Omega.{arith}
use mathlib.Core.Path.{◌≡◌, refl, ◌∙◌}
use lib.ListN.{length, length-set}
use Rattle.refusal.proofs.Passed.{clash}
use Rattle.reachability.proofs.Ending.{searched-first, searched-on, found, not_found}
use Rattle.reachability.proofs.search.Goals as goal

pub loop-reached-init : goal.loop-reached-init
loop-reached-init c =
    let start = c in
    let a = start.args in
    let p = start.requires in (
      refl,
      refl,
      refl,
      omega arith,
      searched-first _ _ _ _ _ a.reached.now a.fresh.now (omega (arith, p.0, p.4)) (omega (arith, p.0, p.5)) p.7 p.8,
    )

pub bounds-reached-0-in-loop-reached : goal.bounds-reached-0-in-loop-reached
bounds-reached-0-in-loop-reached c =
    let reached-same : length c.loop-reached.reached ≡ length c.args.reached.now = c.loop-reached.invariant.0 ∙ length-set c.args.reached.now 0 c.args.header.initial in
    omega (arith, reached-same, c.requires.0, c.requires.4)

pub pop-requires : goal.pop-requires
pop-requires c =
    let fresh-same : length c.loop-reached.fresh ≡ length c.args.fresh.now = c.loop-reached.invariant.1 ∙ length-set c.args.fresh.now 0 c.args.header.initial in
    (omega (arith, fresh-same, c.requires.5), c.loop-reached.invariant.3)

pub shape_of-reached-in_default : goal.shape_of-reached-in_default
shape_of-reached-in_default c =
    let reached-same : length c.loop-reached.reached ≡ length c.args.reached.now = c.loop-reached.invariant.0 ∙ length-set c.args.reached.now 0 c.args.header.initial in
    reached-same

pub shape_of-fresh-in_default : goal.shape_of-fresh-in_default
shape_of-fresh-in_default c =
    let fresh-same : length c.loop-reached.fresh ≡ length c.args.fresh.now = c.loop-reached.invariant.1 ∙ length-set c.args.fresh.now 0 c.args.header.initial in
    fresh-same

pub shape_of-waiting-in_default : goal.shape_of-waiting-in_default
shape_of-waiting-in_default c = c.loop-reached.invariant.2

pub returns-in_default : goal.returns-in_default
returns-in_default c =
    let at = c in
    let start = at in (
      λ e. clash (cc),
      λ f. absurd (not_found _ _ _ _ _ at.loop-reached.invariant.4 start.args.header.accepting start.requires.0 (rw c.in_default.is at c.pop.ensures) c.loop-reached-test.true f),
    )

pub turn-height-requires : goal.turn-height-requires
turn-height-requires c =
    let reached-same : length c.loop-reached.reached ≡ length c.args.reached.now = c.loop-reached.invariant.0 ∙ length-set c.args.reached.now 0 c.args.header.initial in
    let fresh-same : length c.loop-reached.fresh ≡ length c.args.fresh.now = c.loop-reached.invariant.1 ∙ length-set c.args.fresh.now 0 c.args.header.initial in
    let taken = rw c.in-Some.is at c.pop.ensures in
    let p = c.requires in (
      taken.1.0,
      p.1,
      p.2,
      p.3,
      omega (arith, p.4, reached-same),
      omega (arith, p.5, fresh-same),
      taken.0,
      p.6 _,
    )

pub loop-reached-smaller : goal.loop-reached-smaller
loop-reached-smaller c =
    let taken = rw c.in-Some.is at c.pop.ensures in
    c.turn-height.ensures.1.falls taken.1.1

pub loop-reached-preserved : goal.loop-reached-preserved
loop-reached-preserved c =
    let l = c.loop-reached in (
      c.turn-height.auto.reached ∙ l.invariant.0,
      c.turn-height.auto.fresh ∙ l.invariant.1,
      c.turn-height.auto.waiting ∙ l.invariant.2,
      omega (arith, c.turn-height.ensures.0, c.turn-height.auto.waiting),
      searched-on _ _ _ _ _ c.turn-height.ensures.1 l.invariant.4,
    )

pub shape_of-reached : goal.shape_of-reached
shape_of-reached c =
    let reached-same : length c.loop-reached.reached ≡ length c.args.reached.now = c.loop-reached.invariant.0 ∙ length-set c.args.reached.now 0 c.args.header.initial in
    reached-same

pub shape_of-fresh : goal.shape_of-fresh
shape_of-fresh c =
    let fresh-same : length c.loop-reached.fresh ≡ length c.args.fresh.now = c.loop-reached.invariant.1 ∙ length-set c.args.fresh.now 0 c.args.header.initial in
    fresh-same

pub shape_of-waiting : goal.shape_of-waiting
shape_of-waiting c = c.loop-reached.invariant.2

pub returns : goal.returns
returns c = (λ e. found _ _ _ _ _ c.loop-reached.invariant.4 c.args.header.accepting c.loop-reached-test.false, λ f. refl)
