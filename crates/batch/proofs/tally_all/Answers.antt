-- `batch::tally_all` meets its contract. The invariant: the tally so far, and what is left, come to the whole.
-- Assumes nothing.
-- the place after a part is within the bytes
use Prim.Native.Nat.{◌+◌, ◌≤◌}
use native.Mathlib.Omega.{arith}
use mathlib.Core.Path.{refl, sym, ap, ◌∙◌}
use borrow.Author.Tests.{not-true, not-false}
use lib.ListN.{length, length-drop}
use lib.Seq.{length-take-le}
use Rattle.batch.proofs.Tallying.{fresh-cached, tally-ends, tally-goes-on, tally-rest}
use Rattle.batch.proofs.tally_all.Goals as goal

pub loop-header-init : goal.loop-header-init
loop-header-init c = (omega arith, refl, λ A k. (fresh-cached A _ c.fresh-cache.ensures, refl))

pub slice_bounds-judge_part-end : goal.slice_bounds-judge_part-end
slice_bounds-judge_part-end c = sym c.loop-header.invariant.1

pub overflow_mul-numbers : goal.overflow_mul-numbers
overflow_mul-numbers c = let e = c.judge_part-part.ensures in omega (arith, e.0, e.1, c.loop-header.invariant.1)

pub slice_bounds-answers-end : goal.slice_bounds-answers-end
slice_bounds-answers-end c = let e = c.judge_part-part.ensures in omega (arith, e.0)

pub slice_bounds-count_all-end : goal.slice_bounds-count_all-end
slice_bounds-count_all-end c = sym (length-take-le _ _ c.judge_part-part.ensures.0)

pub overflow_add-at : goal.overflow_add-at
overflow_add-at c =
    let within : c.loop-header.at + c.judge_part-part.result.bytes ≤ length c.args.bytes.now = let e = c.judge_part-part.ensures in
    omega (arith, e.3, ap length c.back.ensures, length-drop c.loop-header.at c.args.bytes.now, c.loop-header.invariant.0) in
    omega (arith, within, c.well_formed)

pub returns-then-not-part : goal.returns-then-not-part
returns-then-not-part c =
    λ A k.
    let v = c.loop-header.invariant.2 A k in
    let e = c.judge_part-part.ensures in
    tally-ends A _ _ _ c.args.bytes.now _ _ _ c.loop-header.at _ v.1 c.back.ensures (e.5 A k v.0).1 c.count_all-tally.ensures (not-true _ c.if-not-part.true)

pub overflow_sub-bytes : goal.overflow_sub-bytes
overflow_sub-bytes c =
    let within : c.loop-header.at + c.judge_part-part.result.bytes ≤ length c.args.bytes.now = let e = c.judge_part-part.ensures in
    omega (arith, e.3, ap length c.back.ensures, length-drop c.loop-header.at c.args.bytes.now, c.loop-header.invariant.0) in
    within

pub returns-then-part-lt128 : goal.returns-then-part-lt128
returns-then-part-lt128 c =
    λ A k.
    let v = c.loop-header.invariant.2 A k in
    let e = c.judge_part-part.ensures in
    let on = not-false _ c.if-not-part.false in
    tally-rest A _ _ _ c.args.bytes.now _ _ _ c.loop-header.at _ v.1 c.back.ensures (e.5 A k v.0).1 c.count_all-tally.ensures on (e.4 on) (omega (arith, c.if-part-lt128.true, c.loop-header.invariant.1)) _ _ (sym (length-drop (c.loop-header.at + c.judge_part-part.result.bytes) c.args.bytes.now)) c.count_rest.ensures

pub loop-header-smaller : goal.loop-header-smaller
loop-header-smaller c =
    let within : c.loop-header.at + c.judge_part-part.result.bytes ≤ length c.args.bytes.now = let e = c.judge_part-part.ensures in
    omega (arith, e.3, ap length c.back.ensures, length-drop c.loop-header.at c.args.bytes.now, c.loop-header.invariant.0) in
    let e = c.judge_part-part.ensures in omega (arith, e.2, c.if-part-lt128.false, within)

pub loop-header-preserved : goal.loop-header-preserved
loop-header-preserved c =
    let within : c.loop-header.at + c.judge_part-part.result.bytes ≤ length c.args.bytes.now = let e = c.judge_part-part.ensures in
    omega (arith, e.3, ap length c.back.ensures, length-drop c.loop-header.at c.args.bytes.now, c.loop-header.invariant.0) in
    let e = c.judge_part-part.ensures in (
      within,
      e.1 ∙ c.loop-header.invariant.1,
      λ A k.
          let v = c.loop-header.invariant.2 A k in
          let told = e.5 A k v.0 in
          (told.0, tally-goes-on A _ _ _ c.args.bytes.now _ _ _ c.loop-header.at _ v.1 c.back.ensures told.1 c.count_all-tally.ensures (not-false _ c.if-not-part.false)),
    )
