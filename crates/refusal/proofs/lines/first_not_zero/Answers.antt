-- `refusal::lines::first_not_zero` meets its contract. The invariant: what is left of the search gives the answer. What a step passes over need
-- not be zero: from 32 on every bit of a `u32` is 0, and it is before the payload's end.
-- Assumes nothing.
use borrow.Author.Rules.{rules}
use borrow.Author.Tests.{lt-leb}
use Prim.Native.Nat.{ℕ, ◌^◌, ◌≤◌, ◌<◌}
use mathlib.Core.Path.{◌≡◌, sym, ◌∙◌}
use mathlib.Core.Bool.{false}
use mathlib.Core.List.{List}
use native.Mathlib.Nat.{sub-zero}
use native.Mathlib.Decide.{dec_lt}
use native.Mathlib.Omega.{arith}
use Rattle.blocks.proofs.Laws.{lowest-skipped, lowest-hit, lowest-none}
use Rattle.refusal.specs.Lines.{must_be_zero, not_zero}
use Rattle.refusal.proofs.Cases.{no-bit}
use Rattle.refusal.proofs.lines.first_not_zero.Goals as goal

inside : (zeros end : ℕ) (p : List ℕ) (j : ℕ) → zeros < 2 ^ 32 → 32 ≤ j → j < end → not_zero zeros end p j ≡ false
unfolding must_be_zero not_zero
inside zeros end p j z lo hi = rw (no-bit zeros j z lo, lt-leb _ _ hi)

passed_over : (zeros end : ℕ) (p : List ℕ) (at next : ℕ) → zeros < 2 ^ 32 → not_zero zeros end p at ≡ false
    → ((j : ℕ) → at < j → j < next → (32 ≤ j) × (j < end)) → (j : ℕ) → at ≤ j → j < next → not_zero zeros end p j ≡ false
passed_over zeros end p at next z here between j lo hi = go (dec_lt at j)
  where
    go : Dec (at < j) → not_zero zeros end p j ≡ false
    go (yes m) = inside zeros end p j z (between j m hi).0 (between j m hi).1
    go (no m) = let same : j ≡ at = omega arith in rw same here

pub loop-at-init : goal.loop-at-init
loop-at-init c = rw sub-zero

pub returns-then-not_zero : goal.returns-then-not_zero
returns-then-not_zero c =
    let l = c.loop-at in
    sym (l.invariant ∙ lowest-hit _ l.at _ (search rules) (sym c.not_zero.ensures ∙ c.if-not_zero.true))

pub loop-at-preserved : goal.loop-at-preserved
loop-at-preserved c =
    let l = c.loop-at in
    let a = c in
    let next = c.next_offset-at.ensures in
    l.invariant
    ∙ lowest-skipped _ l.at _ _ (omega (arith, next.0))
    (passed_over a.args.zeros a.args.end a.args.content.now l.at _ a.ranges.zeros.fits (sym c.not_zero.ensures ∙ c.if-not_zero.false) next.1)

pub returns : goal.returns
returns c = sym (c.loop-at.invariant ∙ lowest-none _ _ _ (search rules))
