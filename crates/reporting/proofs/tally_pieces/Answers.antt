-- `reporting::tally_pieces` meets its contract. The invariant: what was read comes to what the tally and the bytes that are held come to (`Reading`).
-- Assumes nothing.
use Prim.Native.Nat.{ℕ, ◌+◌, ◌-◌, ◌≤◌, ◌<◌}
use native.Mathlib.Omega.{arith}
use mathlib.Core.Path.{◌≡◌, sym, ◌∙◌}
use mathlib.Core.Bool.{true}
use mathlib.Core.List.{List}
use borrow.Author.Tests.{leb-true, leb-false, not-true, not-false}
use lib.ListN.{length, take, drop, length-drop}
use lib.Seq.{length-take-le}
use Rattle.algorithms.specs.Automaton.{Automaton}
use Rattle.tally.specs.Tally.{total}
use Rattle.tally.specs.declared.Tally.{Tally}
use Rattle.reporting.specs.declared.Descriptor.{Descriptor}
use Rattle.reporting.specs.Trace.{Asked}
use Rattle.reporting.proofs.Reading.{Reading, Filled, left_cut, some-file, begun, filled, stopped, full, ended, onward, nearer}
use Rattle.reporting.proofs.tally_pieces.Goals as goal

-- what the buffer has when it was filled from `held` on
got-all : (held got : ℕ) (b : List ℕ) → length b ≡ 65536 → held + got ≤ 65536 → length (take (held + got) b) ≡ held + got
got-all held got b full fit = length-take-le (held + got) b (omega (arith, full, fit))

read-on : (d : Descriptor) (A : Automaton) (t : Tally) (b b' : List ℕ) (held got : ℕ) → length b' ≡ 65536 → take held b' ≡ take held b → held + got ≤ 65536
    → Asked d (65536 - held) got → Reading d A t (take held b) → Filled d A t (take (held + got) b') (65536 - held) got
read-on d A t b b' held got size kept fit asked x = filled d A t b b' held (65536 - held) got kept (omega (arith, size, fit)) asked x

pub loop-header-init : goal.loop-header-init
loop-header-init c = let p = c.requires in (p.1, p.2, omega arith, omega arith, λ A k h. (h, begun _ A))

pub returns-then-not-part : goal.returns-then-not-part
returns-then-not-part c =
    let r = c.read_part-got in
    let l = c.loop-header in
    let size = r.ensures.3 ∙ l.invariant.0 in
    λ A k h.
    let v = l.invariant.4 A k h in
    stopped _ A _ _ _ _ _ _ _ _ (read-on _ A _ _ _ _ _ size r.ensures.1 r.ensures.0 r.ensures.2 v.1) (c.judge_part-part.ensures.5 A k v.0).1
    c.count_all-tally.ensures (not-true _ c.if-not-part.true)

pub returns-then-is_full : goal.returns-then-is_full
returns-then-is_full c =
    let r = c.read_part-got in
    let l = c.loop-header in
    let size = r.ensures.3 ∙ l.invariant.0 in
    λ A k h.
    let v = l.invariant.4 A k h in
    full _ A _ _ _ _ _ _ _ _ (read-on _ A _ _ _ _ _ size r.ensures.1 r.ensures.0 r.ensures.2 v.1) (c.judge_part-part.ensures.5 A k v.0).1
    c.count_all-tally.ensures (leb-true 1000000 (total c.count_all-tally.result) (sym c.is_full.ensures ∙ c.if-is_full.true))

pub returns-then-all-lt65536 : goal.returns-then-all-lt65536
returns-then-all-lt65536 c =
    let r = c.read_part-got in
    let l = c.loop-header in
    let j = c.judge_part-part.ensures in
    let part = c.judge_part-part.result in
    let size = r.ensures.3 ∙ l.invariant.0 in
    let s = take (l.held + r.result) r.new.buffer in
    let all : length s ≡ l.held + r.result = got-all _ _ _ size r.ensures.0 in
    let on : part.more ≡ true = not-false _ c.if-not-part.false in
    let short : length s < 65536 = omega (arith, all, c.if-all-lt65536.true) in
    let cut = left_cut s l.answers part l.invariant.1 j.2 j.3 (j.4 on) short in
    let left : l.held + r.result - part.bytes ≡ length (drop part.bytes s) = omega (arith, all, length-drop part.bytes s) in
    λ A k h.
    let v = l.invariant.4 A k h in
    ended _ A _ _ _ _ _ _ _ _ (read-on _ A _ _ _ _ _ size r.ensures.1 r.ensures.0 r.ensures.2 v.1) (j.5 A k v.0).1 c.count_all-tally.ensures _ _ on
    (omega (arith, c.if-all-lt65536.true)) left cut c.count_rest.ensures

pub overflow_sub-all : goal.overflow_sub-all
overflow_sub-all c =
    let r = c.read_part-got in
    omega (arith, c.judge_part-part.ensures.3, got-all _ _ r.new.buffer (r.ensures.3 ∙ c.loop-header.invariant.0) r.ensures.0)

pub move_front-held-requires : goal.move_front-held-requires
move_front-held-requires c =
    let r = c.read_part-got in
    let size = r.ensures.3 ∙ c.loop-header.invariant.0 in
    (omega (arith, c.judge_part-part.ensures.3, got-all _ _ r.new.buffer size r.ensures.0), omega (arith, size, r.ensures.0))

pub loop-header-smaller : goal.loop-header-smaller
loop-header-smaller c =
    let r = c.read_part-got in
    let l = c.loop-header in
    let j = c.judge_part-part.ensures in
    let part = c.judge_part-part.result in
    let s = take (l.held + r.result) r.new.buffer in
    let all : length s ≡ l.held + r.result = got-all _ _ _ (r.ensures.3 ∙ l.invariant.0) r.ensures.0 in
    let on : part.more ≡ true = not-false _ c.if-not-part.false in
    let whole : length s ≡ 65536 = omega (arith, all, r.ensures.0) in
    let some = some-file s l.answers part l.invariant.1 j.2 j.3 (j.4 on) whole j.6 in
    nearer l.tally c.count_all-tally.result c.judge_part-part.new.answers part.files c.count_all-tally.ensures j.0 l.invariant.3 some

pub loop-header-preserved : goal.loop-header-preserved
loop-header-preserved c =
    let r = c.read_part-got in
    let l = c.loop-header in
    let j = c.judge_part-part.ensures in
    let size = r.ensures.3 ∙ l.invariant.0 in
    let on : c.judge_part-part.result.more ≡ true = not-false _ c.if-not-part.false in
    let moved = c.move_front-held.ensures in (
      moved.1 ∙ size,
      j.1 ∙ l.invariant.1,
      omega (arith, moved.0, r.ensures.0),
      leb-false 1000000 (total c.count_all-tally.result) (sym c.is_full.ensures ∙ c.if-is_full.false),
      λ A k h.
          let v = l.invariant.4 A k h in
          ((j.5 A k v.0).0, onward _ A _ _ _ _ _ _ _ _ (read-on _ A _ _ _ _ _ size r.ensures.1 r.ensures.0 r.ensures.2 v.1) (j.5 A k v.0).1 c.count_all-tally.ensures _ on moved.2),
    )
