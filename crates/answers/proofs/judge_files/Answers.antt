-- `answers::judge_files` meets its contract.
-- Assumes nothing.
use mathlib.Core.Path.{◌≡◌}
use mathlib.Core.Bool.{true}
use Prim.Native.Nat.{◌≤◌, ◌*◌, ◌+◌}
use Rattle.answers.proofs.Laws.{ended, nothing_left, no_room, left-short, one_more, last_sum}
use lib.ListN.{length}
use Rattle.batch.proofs.Tallying.{fresh-cached}
use borrow.Author.Tests.{not-true, not-false}
use native.Mathlib.Omega.{arith}
use Rattle.answers.proofs.judge_files.Goals as goal

pub returns-then-not-part : goal.returns-then-not-part
returns-then-not-part c =
    λ A k.
    let e = c.weigh_part-part.ensures in
    let judged = e.5 A k (fresh-cached A _ c.fresh-cache.ensures) in
    let told = ended A _ _ _ _ judged.1 (omega (arith, e.0, e.1)) (not-true _ c.if-not-part.true) in
    (told.0, told.1, judged.2)

pub returns-then-rest-eq0 : goal.returns-then-rest-eq0
returns-then-rest-eq0 c =
    λ A k.
    let e = c.weigh_part-part.ensures in
    let judged = e.5 A k (fresh-cached A _ c.fresh-cache.ensures) in
    let told = nothing_left A _ _ _ _ judged.1 (omega (arith, e.0, e.1)) (not-false _ c.if-not-part.false) (rw c.back-rest.ensures at c.if-rest-eq0.true) in
    (told.0, told.1, judged.2)

pub returns-then-answers-at-lt3 : goal.returns-then-answers-at-lt3
returns-then-answers-at-lt3 c =
    λ A k.
    let e = c.weigh_part-part.ensures in
    let judged = e.5 A k (fresh-cached A _ c.fresh-cache.ensures) in
    let told = no_room A _ _ _ _ judged.1 (omega (arith, e.0, e.1)) (not-false _ c.if-not-part.false) (omega (arith, e.0, e.1, c.if-answers-at-lt3.true)) in
    (told.0, told.1, judged.2)

pub returns : goal.returns
returns c =
    λ A k.
    let e = c.weigh_part-part.ensures in
    let on : c.weigh_part-part.result.more ≡ true = (not-false _ c.if-not-part.false) in
    let judged = e.5 A k (fresh-cached A _ c.fresh-cache.ensures) in
    let one = c.judge_one.ensures.2 A k judged.0 in
    let rest = c.back-rest.ensures in
    let lent = c.args.answers.now in
    let files = c.weigh_part-part.result.files in
    let space : 3 * files + 3 ≤ length lent = omega (arith, e.0, e.1, c.if-answers-at-lt3.false) in
    let told = one_more A _ _ _ _ judged.1 (omega (arith, e.0, e.1)) on (e.4 on) _ _ rest (λ z. c.if-rest-eq0.false z) space one.1 in
    (told.0, told.1, last_sum A _ c.weigh_part-part.result.bytes _ _ _ _ _ judged.2 e.8 rest (rw (← rest) at (left-short A _ _ _ _ judged.1 (omega (arith, e.0, e.1)) (e.4 on) space)) one.3)
