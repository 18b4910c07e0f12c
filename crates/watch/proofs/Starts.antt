-- A set with one member: "exactly one start state".
-- Assumes nothing.
use Prim.Native.Nat.{ℕ, ◌^◌, ◌≤◌, ◌<◌}
use native.Mathlib.Decide.{ℕ_discrete}
use native.Mathlib.Omega.{arith}
use mathlib.Core.Path.{◌≡◌, sym, ap, ◌∙◌}
use lib.Count.{ones, ones-le}
use Rattle.relation.specs.Lowest.{lowest_of}
use Rattle.relation.specs.Rows.{bits_of}
use Rattle.relation.proofs.BitLaws.{bit_below}
use Rattle.relation.proofs.LowestLaws.{lowest-on}
use Rattle.relation.proofs.Counts.{bits-some, bits-same, bits-one}
use Rattle.relation.proofs.Turns.{ones-bits}
use Rattle.algorithms.specs.Automaton.{Automaton, In, Proper}
use Rattle.steps.proofs.Choosing.{states-low}

at_most : (m n : ℕ) → m ≡ n → n ≡ 1 → m ≤ 1
at_most m n e f = omega arith

just-one : (m n : ℕ) → n ≡ m → m ≤ 1 → 1 ≤ m → n ≡ 1
just-one m n e h k = omega arith

module _ (x : ℕ) (low : x < 2 ^ 32) where
  -- the lowest member is the only one
  pub one-lowest : ones x ≡ 1 → In x (lowest_of x) × ((q : ℕ) → In x q → q ≡ lowest_of x)
  one-lowest e = (on, λ q h. bits-same 32 x q (lowest_of x) few (bit_below x 32 q low h) (bit_below x 32 (lowest_of x) low on) h on)
    where
      few : bits_of 32 x ≤ 1
      few = at_most (bits_of 32 x) (ones x) (sym (ones-bits 32 x low)) e

      some : Dec (x ≡ 0) → 0 < x
      some (yes z) = absurd (omega (arith, e, ap ones z, ones-le 0 0 (omega arith)))
      some (no n) = omega arith

      on : In x (lowest_of x)
      on = lowest-on x (some (ℕ_discrete x 0)) low

  -- a set with one member counts one
  pub lowest-one : (s : ℕ) → In x s → ((q : ℕ) → In x q → q ≡ s) → ones x ≡ 1
  lowest-one s h only =
      just-one (bits_of 32 x) (ones x) (ones-bits 32 x low) (bits-one 32 x (λ p q a b. only p a ∙ sym (only q b)))
      (bits-some 32 x s (bit_below x 32 s low h) h)

-- the start states of an automaton are below 32
pub starts-low : (A : Automaton) → Proper A → A.initial < 2 ^ 32
starts-low A proper = let h : A.initial < 2 ^ 24 = states-low A proper A.initial proper.initials in omega (arith, h)
