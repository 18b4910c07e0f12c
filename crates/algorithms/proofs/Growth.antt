-- A table that gains a pair counts more, and a table within 24 states counts at most 576: so adding pairs comes to an end.
use mathlib.Core.Path.{◌≡◌, refl, sym, ap, ap₂, ◌∙◌}
use mathlib.Core.Logic.{◌⊎◌, inl, inr}
use mathlib.Core.List.{List, [], ◌∷◌}
use Prim.Native.Nat.{ℕ, zero, suc, ◌+◌, ◌*◌, ◌/◌, ◌%◌, ◌^◌, ◌≤◌, ◌<◌}
use native.Mathlib.Nat.{suc_inj, suc-mul, lt_of_lt_of_le, pow-suc}
use native.Mathlib.Omega.{arith}
use lib.Pow.{pow_mono}
use lib.ListN.{length, get_or}
use Rattle.relation.specs.Bit.{bit}
use Rattle.relation.proofs.BitLaws.{bit-low, bit-half}
use Rattle.relation.specs.Rows.{has, bits_of}
use Rattle.relation.specs.Chain.{Within}
use Rattle.relation.proofs.Algebra.{row_lt}

-- ---- one row

half_lt : (x d : ℕ) → x < 2 ^ suc d → x / 2 < 2 ^ d
half_lt x d l = omega (arith, pow-suc 2 d)

bits-le : (d k x : ℕ) → x < 2 ^ k → bits_of d x ≤ k
bits-le zero k x l = omega arith
bits-le (suc d) zero x l = omega (arith, bits-le d zero (x / 2) (omega arith))
bits-le (suc d) (suc k) x l = omega (arith, bits-le d k (x / 2) (half_lt x k l))

bits-grow : (d x y : ℕ) → x < 2 ^ d → y < 2 ^ d → ((q : ℕ) → bit x q ≡ 1 → bit y q ≡ 1) → (x ≡ y) ⊎ (bits_of d x < bits_of d y)
bits-grow zero x y l m sub = inl (omega arith)
bits-grow (suc d) x y l m sub =
    by (bits-grow d (x / 2) (y / 2) (half_lt x d l) (half_lt y d m) (λ q h. bit-half y q ∙ sub (suc q) (sym (bit-half x q) ∙ h))) (x % 2) refl
  where
    low : x % 2 ≡ 1 → y % 2 ≡ 1
    low e = sym (bit-low y) ∙ sub 0 (bit-low x ∙ e)

    by : (x / 2 ≡ y / 2) ⊎ (bits_of d (x / 2) < bits_of d (y / 2)) → (b : ℕ) → x % 2 ≡ b → (x ≡ y) ⊎ (bits_of (suc d) x < bits_of (suc d) y)
    by (inr h) zero e = inr (omega arith)
    by (inr h) (suc b) e = inr (omega (arith, low (omega arith)))
    by (inl h) (suc b) e = inl (omega (arith, low (omega arith)))
    by (inl h) zero e = with-low (y % 2) refl
      where
        with-low : (c : ℕ) → y % 2 ≡ c → (x ≡ y) ⊎ (bits_of (suc d) x < bits_of (suc d) y)
        with-low zero f = inl (omega arith)
        with-low (suc c) f = inr (omega (arith, ap (bits_of d) h))

-- ---- the pairs of a table

-- How many pairs (p, q) with q < d a table has.
abbrev pub pairs : ℕ → List ℕ → ℕ
pairs d [] = 0
pairs d (x ∷ xs) = bits_of d x + pairs d xs

module _ (d : ℕ) where
  abbrev Low : List ℕ → Type 0
  Low xs = (p : ℕ) → get_or xs p 0 < 2 ^ d

  pairs-le : (xs : List ℕ) → Low xs → pairs d xs ≤ length xs * d
  pairs-le [] l = omega arith
  pairs-le (x ∷ xs) l = rw suc-mul (omega (arith, bits-le d d x (l 0), pairs-le xs (λ p. l (suc p))))

  pairs-grow : (xs ys : List ℕ) → length xs ≡ length ys → Low xs → Low ys → ((p q : ℕ) → has xs p q → has ys p q) →
      (xs ≡ ys) ⊎ (pairs d xs < pairs d ys)
  pairs-grow [] [] e l m sub = inl refl
  pairs-grow [] (y ∷ ys) e l m sub = absurd (omega arith)
  pairs-grow (x ∷ xs) [] e l m sub = absurd (omega arith)
  pairs-grow (x ∷ xs) (y ∷ ys) e l m sub =
      by (bits-grow d x y (l 0) (m 0) (sub 0)) (pairs-grow xs ys (suc_inj e) (λ p. l (suc p)) (λ p. m (suc p)) (λ p. sub (suc p)))
    where
      by : (x ≡ y) ⊎ (bits_of d x < bits_of d y) → (xs ≡ ys) ⊎ (pairs d xs < pairs d ys) →
          (◌≡◌ {A = List ℕ} (x ∷ xs) (y ∷ ys)) ⊎ (bits_of d x + pairs d xs < bits_of d y + pairs d ys)
      by (inl h) (inl k) = inl (ap₂ {C = List ℕ} ◌∷◌ h k)
      by (inl h) (inr k) = inr (omega (arith, ap (bits_of d) h))
      by (inr h) (inl k) = inr (omega (arith, ap (pairs d) k))
      by (inr h) (inr k) = inr (omega arith)

module _ {n : ℕ} (few : n ≤ 24) where
  low : (R : List ℕ) → Within n R → (p : ℕ) → get_or R p 0 < 2 ^ 24
  low R w p = lt_of_lt_of_le (row_lt n R w p) (pow_mono {i = n} {j = 24} few)

  pub pairs-few : (R : List ℕ) → Within n R → pairs 24 R ≤ 576
  pairs-few R w = omega (arith, pairs-le 24 R (low R w), w.rows)

  pub pairs-more : (R S : List ℕ) → Within n R → Within n S → ((p q : ℕ) → has R p q → has S p q) → (R ≡ S) ⊎ (pairs 24 R < pairs 24 S)
  pairs-more R S u v sub = pairs-grow 24 R S (u.rows ∙ sym v.rows) (low R u) (low S v) sub
