-- The records of rules, one after another. Assumes nothing.
use Prim.Native.Nat.{◌*◌}
use native.Mathlib.Omega.{arith}
use mathlib.Core.Path.{◌≡◌, refl}
use mathlib.Core.List.{List, [], ◌∷◌, ◌++◌}
use lib.ListN.{length}
use Rattle.automaton.specs.Payload.{records_of}
use Rattle.automaton.specs.declared.Rule.{Rule}

pub records-length : (rules : List Rule) → length (records_of rules) ≡ 5 * length rules
unfolding records_of
records-length [] = refl
records-length (r ∷ rules) = omega (arith, records-length rules)

pub records-append : (xs ys : List Rule) → records_of xs ++ records_of ys ≡ records_of (xs ++ ys)
unfolding records_of
records-append [] ys = refl
records-append (r ∷ xs) ys = rw (records-append xs ys)
