-- `relation::image_in` meets its contract: at each turn the image of the members left is still to be joined.
-- Assumes nothing.
use mathlib.Core.Path.{◌≡◌, sym, ap, ◌∙◌}
use Prim.Native.Nat.{ℕ}
use native.Mathlib.Nat.{mod-lt}
use native.Mathlib.Omega.{arith}
use lib.Bits.{bit_or, or_zero_l}
use lib.ListN.{length}
use lib.Pow.{pow_pos}
use Rattle.relation.specs.Rows.{image_of}
use Rattle.relation.proofs.Members.{lowest-row, rest-falls, image-cut, image-step, image-done}
use Rattle.relation.proofs.image_in.Goals as goal

pub loop-rest-init : goal.loop-rest-init
loop-rest-init c =
    let la : length c.args.rows.now ≡ 24 = c.requires in
    (mod-lt c.args.from (pow_pos 24), or_zero_l _ ∙ image-cut c.args.rows.now c.args.from la)

pub offset_bounds-rows-lowest : goal.offset_bounds-rows-lowest
offset_bounds-rows-lowest c = omega (arith, lowest-row c.loop-rest.invariant.0 c.lowest.ensures (omega arith))

pub bounds-rows-lowest : goal.bounds-rows-lowest
bounds-rows-lowest c =
    omega (
      arith,
      lowest-row c.loop-rest.invariant.0 c.lowest.ensures (omega arith),
      c.requires,
    )

pub loop-rest-smaller : goal.loop-rest-smaller
loop-rest-smaller c = rest-falls c.loop-rest.invariant.0 c.without_lowest-rest.ensures (omega arith)

pub loop-rest-preserved : goal.loop-rest-preserved
loop-rest-preserved c =
    let at = c.loop-rest in
    let a = c.args.rows.now in
    let k = c.lowest in
    let r = c.without_lowest-rest in (
      omega (arith, rest-falls at.invariant.0 r.ensures (omega arith)),
      image-step a at.rest at.to k.result r.result (omega arith) at.invariant.0 k.ensures r.ensures ∙ at.invariant.1,
    )

pub returns : goal.returns
returns c =
    let at = c.loop-rest in
    let a = c.args.rows.now in
    let z : at.rest ≡ 0 = omega arith in
    sym (image-done a at.to) ∙ ap (λ (x : ℕ). bit_or at.to (image_of a x)) (sym z) ∙ at.invariant.1
