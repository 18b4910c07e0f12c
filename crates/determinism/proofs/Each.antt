-- A test of each of the first n numbers, and how a loop over them goes. Assumes nothing.
use Prim.Native.Nat.{ℕ, zero, suc, ◌+◌, ◌<◌}
use mathlib.Core.Path.{◌≡◌, refl, ap₂}
use mathlib.Core.Logic.{◌↔◌}
use mathlib.Core.Bool.{Bool, true, false, ◌&&◌}
use native.Mathlib.Decide.{ℕ_discrete}
use native.Mathlib.Numerals.{add-one}
use native.Mathlib.Omega.{arith}
use Rattle.refusal.proofs.Passed.{clash, and-is-true}
use Rattle.determinism.specs.Determined.{each}

module _ (test : ℕ → Bool) where
  of-each : (n : ℕ) → each test n ≡ true → (i : ℕ) → i < n → test i ≡ true
  unfolding each
  of-each zero e i l = absurd (omega arith)
  of-each (suc n) e i l = by (ℕ_discrete i n) (and-is-true (each test n) (test n) e) (of-each n)
    where
      by : Dec (i ≡ n) → (each test n ≡ true) × (test n ≡ true) → (each test n ≡ true → (i : ℕ) → i < n → test i ≡ true) → test i ≡ true
      by (yes s) b earlier = rw s b.1
      by (no s) b earlier = earlier b.0 i (omega arith)

  to-each : (n : ℕ) → ((i : ℕ) → i < n → test i ≡ true) → each test n ≡ true
  unfolding each
  to-each zero h = refl
  to-each (suc n) h = rw (to-each n (λ i l. h i (omega arith)), h n (omega arith))

  pub each-has : (n : ℕ) → (each test n ≡ true) ↔ ((i : ℕ) → i < n → test i ≡ true)
  each-has n = (of-each n, to-each n)

  pub each_none : each test 0 ≡ true
  unfolding each
  each_none = refl

  pub each_next : (n : ℕ) → each test n ≡ true → test n ≡ true → each test (n + 1) ≡ true
  unfolding each
  each_next n a b = rw (add-one, a, b)

  pub each-fails : (i n : ℕ) → i < n → test i ≡ false → each test n ≡ false
  each-fails i n l e = by (each test n) refl
    where
      by : (b : Bool) → each test n ≡ b → each test n ≡ false
      by true f = clash (cc (of-each n f i l))
      by false f = f

pub each_same : (test test' : ℕ → Bool) (n : ℕ) → ((i : ℕ) → i < n → test i ≡ test' i) → each test n ≡ each test' n
unfolding each
each_same test test' zero h = refl
each_same test test' (suc n) h = ap₂ ◌&&◌ (each_same test test' n (λ i l. h i (omega arith))) (h n (omega arith))
