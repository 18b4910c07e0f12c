-- `tally::counted` meets its contract: the test on the total picks the case of the definition, and the outcome the number that grows.
-- Assumes nothing.
use mathlib.Core.Path.{sym}
use native.Mathlib.Omega.{arith}
use Rattle.tally.proofs.Counting.{counted-full, counted-one}
use Rattle.tally.proofs.counted.Goals as goal

pub returns-then-total-ge-LIMIT : goal.returns-then-total-ge-LIMIT
returns-then-total-ge-LIMIT c = rw c.refused-check.ensures (sym (counted-full _ _ (omega arith)))

pub returns-in-Accepted : goal.returns-in-Accepted
returns-in-Accepted c = rw c.in-Accepted.is (sym (counted-one _ _ (omega arith)))

pub returns-in-Other : goal.returns-in-Other
returns-in-Other c = rw c.in-Other.is (sym (counted-one _ _ (omega arith)))

pub returns-in-Refused : goal.returns-in-Refused
returns-in-Refused c = rw c.in-Refused.is (sym (counted-one _ _ (omega arith)))
