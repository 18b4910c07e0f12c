-- `tally::percent` meets its contract: the tests pick the case of the definition, and the quotient is 100 at most, so that all fits.
-- Assumes nothing.
use mathlib.Core.Path.{◌≡◌, sym, ◌∙◌}
use mathlib.Core.Logic.{◌≢◌}
use Prim.Native.Nat.{ℕ, ◌+◌, ◌*◌, ◌/◌, ◌%◌, ◌<◌, ◌≤◌}
use native.Mathlib.Nat.{div-lt_iff_lt-mul, mod-lt}
use native.Mathlib.Omega.{arith}
use Rattle.tally.specs.declared.Tally.{Tally}
use Rattle.tally.specs.Tally.{even_of, judged_in, percent_of}
use Rattle.tally.specs.Rounding.{PercentRight}
use Rattle.tally.proofs.RoundingLaws.{rounded-down, rounded-up, rounded-even, percent-of-none, percent-of-some, percent-right}
use Rattle.tally.proofs.percent.Goals as goal

-- what is equal to the definition's number is right
right : (t : Tally) (n : ℕ) → n ≡ percent_of t → PercentRight t n
right t n e = rw e (percent-right t)

-- what the code has of a tally
abbrev below : Tally → ℕ
below t = 100 * t.accepted / judged_in t

abbrev twice : Tally → ℕ
twice t = 2 * (100 * t.accepted % judged_in t)

positive : {n : ℕ} → n ≢ 0 → 0 < n
positive some = omega (arith, some)

below-at-most : (t : Tally) → judged_in t ≢ 0 → below t ≤ 100
below-at-most t some =
    let less : below t < 101 = (div-lt_iff_lt-mul {k = judged_in t} (positive some)).1 (omega (arith, some)) in
    omega (arith, less)

-- the three cases
told-down : (t : Tally) → judged_in t ≢ 0 → twice t < judged_in t → below t ≡ percent_of t
told-down t some less = sym (percent-of-some t (positive some) ∙ rounded-down (below t) (twice t) (judged_in t) less)

told-up : (t : Tally) → judged_in t ≢ 0 → judged_in t < twice t → below t + 1 ≡ percent_of t
told-up t some more = sym (percent-of-some t (positive some) ∙ rounded-up (below t) (twice t) (judged_in t) more)

told-even : (t : Tally) → judged_in t ≢ 0 → twice t ≡ judged_in t → even_of (below t) ≡ percent_of t
told-even t some half = sym (percent-of-some t (positive some) ∙ rounded-even (below t) (twice t) (judged_in t) half)

pub returns-then-judged-eq0 : goal.returns-then-judged-eq0
returns-then-judged-eq0 c = let e = sym (percent-of-none _ c.if-judged-eq0.true) in record { equals = e; right = right c.args.tally _ e }

pub overflow_cast-below : goal.overflow_cast-below
overflow_cast-below c = record { fits = omega (arith, below-at-most c.args.tally c.if-judged-eq0.false) }

pub overflow_mul-twice-2 : goal.overflow_mul-twice-2
overflow_mul-twice-2 c = record { fits = omega (arith, mod-lt (100 * c.args.tally.accepted) (positive c.if-judged-eq0.false)) }

pub returns-then-twice-judged : goal.returns-then-twice-judged
returns-then-twice-judged c = let e = told-down c.args.tally c.if-judged-eq0.false (omega (arith, c.if-twice-judged.true)) in record { equals = e; right = right c.args.tally _ e }

pub overflow_add-result : goal.overflow_add-result
overflow_add-result c = record { fits = omega (arith, below-at-most c.args.tally c.if-judged-eq0.false) }

pub returns-then-judged-twice : goal.returns-then-judged-twice
returns-then-judged-twice c = let e = told-up c.args.tally c.if-judged-eq0.false (omega (arith, c.if-judged-twice.true)) in record { equals = e; right = right c.args.tally _ e }

pub overflow_add-result-2 : goal.overflow_add-result-2
overflow_add-result-2 c = record { fits = omega (arith, below-at-most c.args.tally c.if-judged-eq0.false) }

pub returns : goal.returns
returns c = let e = told-even c.args.tally c.if-judged-eq0.false (omega (arith, c.if-twice-judged.false, c.if-judged-twice.false)) in record { equals = e; right = right c.args.tally _ e }
