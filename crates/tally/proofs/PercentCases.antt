-- Every row of the table of percents is right, by one equation that is computed. Assumes nothing.
use mathlib.Core.Path.{◌≡◌, refl}
use mathlib.Core.List.{map}
use Rattle.tally.specs.Tally.{percent_of}
use Rattle.tally.specs.PercentCases.{cases, tally_in, told}

pub cases-right : map (λ c. percent_of (tally_in c)) cases ≡ map told cases
unfolding percent_of cases
cases-right = refl
