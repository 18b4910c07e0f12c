-- `determinization::class_for` meets its contract.
-- Assumes nothing.
use Rattle.determinization.proofs.Computing.{class-added}
use mathlib.Core.Path.{refl}
use native.Mathlib.Omega.{arith}
use borrow.Author.Rules.{rules}
use Rattle.determinization.proofs.class_for.Goals as goal

pub returns-then-cache-count : goal.returns-then-cache-count
returns-then-cache-count c = (refl, refl, λ A maps cells k. (record { cached = k; same = λ i s e. refl; more = omega arith }, λ small. absurd (omega arith)))

pub returns-then-count-gt1023 : goal.returns-then-count-gt1023
returns-then-count-gt1023 c = (refl, refl, λ A maps cells k. (record { cached = k; same = λ i s e. refl; more = omega arith }, λ small. absurd (omega arith)))

pub returns : goal.returns
returns c = (refl, refl, λ A maps cells k. let x = class-added A _ _ _ _ maps cells _ _ k (omega (arith, c.if-count-gt1023.false)) (search rules) (search rules) c.put_side.ensures c.put_side-2.ensures in (x.0, λ small. x.1))
