-- What rounding the percent is (document 02, W3): the nearest whole number, and of two equally near ones the even.
-- Interface: `distance`, `Rounded`, `PercentRight`.
use Rattle.std.specs.Prelude.{◌≡◌, ◌≢◌, ℕ, ◌+◌, ◌-◌, ◌*◌, ◌%◌, ◌<◌, ◌≤◌}
use Rattle.tally.specs.declared.Tally.{Tally}
use Rattle.tally.specs.Tally.{judged_in}

-- how far r is from 100 a / d, times d: one of the two differences is 0
abbrev pub distance : (a d r : ℕ) → ℕ
distance a d r = (100 * a - r * d) + (r * d - 100 * a)

-- r is the percent of a among d
pub record Rounded (a d r : ℕ) : Type 0 where
  -- "rounded to the nearest": no whole number is nearer
  pub nearest : (s : ℕ) → distance a d r ≤ distance a d s
  -- "rounds a half to the even number": where another is as near, r is the even one
  pub even : (s : ℕ) → s ≢ r → distance a d s ≡ distance a d r → r % 2 ≡ 0

-- what the percent n of a tally is: "0 if nothing was judged", else the one whole number that is rounded so
pub record PercentRight (t : Tally) (n : ℕ) : Type 0 where
  pub none : judged_in t ≡ 0 → n ≡ 0
  pub rounded : 0 < judged_in t → Rounded t.accepted (judged_in t) n
  pub only : 0 < judged_in t → (r : ℕ) → Rounded t.accepted (judged_in t) r → r ≡ n
