-- `batch::part::weigh_part` meets its contract. The invariant: the files so far are judged, and their answers written.
-- Assumes nothing.
-- a part from a place on
use Prim.Native.Nat.{ℕ, ◌+◌, ◌-◌, ◌*◌, ◌≤◌}
use native.Mathlib.Omega.{arith}
use mathlib.Core.Path.{◌≡◌, refl, ◌∙◌}
use mathlib.Core.List.{List}
use mathlib.Core.Logic.{inl, inr}
use lib.ListN.{length, take, drop, length-drop}
use Rattle.refusal.proofs.Passed.{clash}
use Rattle.batch.proofs.Parts.{begun, onward}
use Rattle.batch.proofs.Sums.{after_more, nothing-after, no-sums, sum_more}
use Rattle.batch.proofs.Pieces.{most_bytes}
use Rattle.batch.proofs.part.weigh_part.Goals as goal

part-is : (at n : ℕ) → at + n - at ≡ n
part-is at n = omega arith

within : (s : List ℕ) (at n : ℕ) → at + n ≤ length s → n ≤ length (drop at s)
within s at n l = simp length-drop (omega arith)

pub loop-more-init : goal.loop-more-init
loop-more-init c = (omega arith, refl, omega arith, omega arith, λ A k h. (h, begun A _ _, no-sums A _ _), omega arith, refl, nothing-after _)

pub returns-then-room-lt3 : goal.returns-then-room-lt3
returns-then-room-lt3 c = let v = c.loop-more.invariant in (v.0, v.1, v.2, v.3, (λ e. inr (omega (arith, v.0, v.1, c.if-room-lt3.true))), v.4, v.5, v.6, v.7)

pub returns-in_default : goal.returns-in_default
returns-in_default c = let v = c.loop-more.invariant in (v.0, v.1, v.2, v.3, (λ e. inl (c.whole_length.ensures.1 c.in_default.is)), v.4, v.5, v.6, v.7)

pub overflow_add-end : goal.overflow_add-end
overflow_add-end c = let n = c.whole_length.ensures.0 _ c.in-Some.is in omega (arith, n.2, c.well_formed)

pub slice_bounds-judge_one-end : goal.slice_bounds-judge_one-end
slice_bounds-judge_one-end c = (c.whole_length.ensures.0 _ c.in-Some.is).2

pub judge_one-more-requires : goal.judge_one-more-requires
judge_one-more-requires c = let v = c.loop-more.invariant in (c.requires, omega (arith, v.0, c.if-room-lt3.false))

pub loop-more-smaller : goal.loop-more-smaller
loop-more-smaller c = let n = c.whole_length.ensures.0 _ c.in-Some.is in omega (arith, n.1, n.2)

pub loop-more-preserved : goal.loop-more-preserved
loop-more-preserved c =
    let l = c.loop-more in
    let v = l.invariant in
    let args = c.args in
    let size = c.in-Some.length in
    let n = c.whole_length.ensures.0 _ c.in-Some.is in
    let told = c.judge_one-more.ensures in
    let room : 3 * l.files + 3 ≤ length l.answers = omega (arith, v.0, c.if-room-lt3.false) in (
      omega (arith, told.0, room),
      told.0 ∙ v.1,
      omega (arith, v.2, n.1),
      n.2,
      λ A k h.
          let at = v.4 A k h in
          let one = told.2 A k at.0 in (
            one.0,
            onward A args.bytes.now args.answers.now l.answers _ l.files l.at size l.more _ at.1 c.loop-more-test.true n.0
                (within _ _ _ n.2) (omega (arith, room, v.1)) (rw (part-is l.at size) at one.1) (rw (part-is l.at size) at one.2),
            sum_more A l.files l.at size args.bytes.now args.growths.now l.growths _ (take size (drop l.at args.bytes.now)) at.2 v.7 n.0
                refl (rw (part-is l.at size) at one.3),
          ),
      omega (arith, v.5, n.0, most_bytes (drop l.at args.bytes.now)),
      told.1 ∙ v.6,
      after_more l.files l.at size args.bytes.now v.7 n.0,
    )

pub returns : goal.returns
returns c = let v = c.loop-more.invariant in (v.0, v.1, v.2, v.3, (λ e. clash (cc c.loop-more-test.false)), v.4, v.5, v.6, v.7)
