-- `numbering::outcome_of` meets its contract: each arm has its number, and a number that is neither is two more than some number.
-- Assumes nothing.
use Prim.Native.Nat.{suc, ◌-◌}
use mathlib.Core.Path.{◌≡◌}
use native.Mathlib.Omega.{arith}
use Rattle.numbering.specs.Numbers.{outcome_numbered}
use Rattle.numbering.proofs.outcome_of.Goals as goal

pub returns-in-0 : goal.returns-in-0
unfolding outcome_numbered
returns-in-0 c = rw c.in-0.is

pub returns-in-1 : goal.returns-in-1
unfolding outcome_numbered
returns-in-1 c = rw c.in-1.is

pub returns-in_default : goal.returns-in_default
unfolding outcome_numbered
returns-in_default c =
    let n = c.args.number in
    let e : n ≡ suc (suc (n - 2)) = omega arith in
    rw e
