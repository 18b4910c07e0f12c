-- `relation::set::contains` meets its contract: from 32 on every bit of a `u32` is 0.
-- Assumes nothing.
use mathlib.Core.Path.{refl}
use native.Mathlib.Nat.{div-eq_of_lt, lt_of_lt_of_le}
use lib.Pow.{pow_mono}
use Rattle.relation.specs.Sets.{member}
use Rattle.relation.proofs.set.contains.Goals as goal

pub returns-then-number-ge32 : goal.returns-then-number-ge32
unfolding member
returns-then-number-ge32 c = rw (div-eq_of_lt (lt_of_lt_of_le c.ranges.set.fits (pow_mono c.if-number-ge32.true)))

pub returns : goal.returns
unfolding member
returns c = refl
