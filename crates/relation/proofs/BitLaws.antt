-- The laws of bits: of an `or`, an `and` and a power of two; two numbers with the same bits are equal. Assumes nothing.
use mathlib.Core.Path.{◌≡◌, refl, sym, ap, ◌∙◌, subst}
use mathlib.Core.Logic.{◌⊎◌, inl, inr, ⊎_elim, ◌↔◌}
use Prim.Native.Nat.{ℕ, zero, suc, ◌+◌, ◌-◌, ◌*◌, ◌/◌, ◌%◌, ◌^◌, ◌<◌, min, max}
use native.Mathlib.Nat.{mod-lt, zero-div, div-one, div_self, div-eq_of_lt, mul-mod_left, pow-suc, zero-lt-suc, mul-div_cancel, one-mul}
use native.Mathlib.Nat.{lt_of_lt_of_le, div-lt_iff_lt-mul}
use native.Mathlib.Numerals.{one-add}
use native.Mathlib.Decide.{dec_lt}
use native.Mathlib.Omega.{arith}
use lib.Arith.{bin_ind}
use lib.Dec.{lit<}
use lib.Bits.{bit_or, bit_and, or_step, and_step, or_shr, and_shr}
use lib.Pow.{pow_pos, pow_mono, pow-lt, pow-add, shr-shr, shl_exact}
use Rattle.relation.specs.Bit.{bit}

pub bit-lt : (x q : ℕ) → bit x q < 2
bit-lt x q = mod-lt (x / 2 ^ q) (zero-lt-suc 1)

-- A bit that is not 1 is 0.
pub bit-off : (x q : ℕ) → (bit x q ≡ 1 → ⊥) → bit x q ≡ 0
bit-off x q h = omega arith

pub bit-or : (a b q : ℕ) → bit (bit_or a b) q ≡ max (bit a q) (bit b q)
bit-or a b q = ap (λ (x : ℕ). x % 2) (or_shr a b q) ∙ omega (arith, or_step (a / 2 ^ q) (b / 2 ^ q))

pub bit-and : (a b q : ℕ) → bit (bit_and a b) q ≡ min (bit a q) (bit b q)
bit-and a b q = ap (λ (x : ℕ). x % 2) (and_shr a b q) ∙ omega (arith, and_step (a / 2 ^ q) (b / 2 ^ q))

pub bit-zero : (q : ℕ) → bit 0 q ≡ 0
bit-zero q = ap (λ (x : ℕ). x % 2) (zero-div (2 ^ q))

pub bit-low : (x : ℕ) → bit x 0 ≡ x % 2
bit-low x = ap (λ (y : ℕ). y % 2) (div-one x)

pub bit-half : (x q : ℕ) → bit (x / 2) q ≡ bit x (suc q)
bit-half x q = ap (λ (y : ℕ). y % 2) (shr-shr x 1 q) ∙ ap (λ (k : ℕ). bit x k) (one-add q)

pub bit-pow : (q : ℕ) → bit (2 ^ q) q ≡ 1
bit-pow q = ap (λ (y : ℕ). y % 2) (div_self (pow_pos q))

-- A power of two has one bit.
pub bit-pow-eq : (p q : ℕ) → bit (2 ^ p) q ≡ 1 → p ≡ q
bit-pow-eq p q h = go (dec_lt p q) (dec_lt q p)
  where
    above : (j : ℕ) → p ≡ suc j + q → bit (2 ^ p) q ≡ 0
    above j e =
        ap (λ (k : ℕ). bit (2 ^ k) q) e
        ∙ ap (λ (y : ℕ). y / 2 ^ q % 2) (pow-add 2 (suc j) q)
        ∙ ap (λ (y : ℕ). y % 2) (mul-div_cancel (2 ^ suc j) (pow_pos q) ∙ pow-suc 2 j)
        ∙ mul-mod_left (2 ^ j) 2

    go : Dec (p < q) → Dec (q < p) → p ≡ q
    go (yes l) d = absurd (omega (arith, ap (λ (y : ℕ). y % 2) (div-eq_of_lt (pow-lt l)), h))
    go (no n) (yes l) = absurd (omega (arith, above (p - suc q) (omega arith), h))
    go (no n) (no m) = omega arith

-- What `1 << q` is at a `u32`.
pub one_shl : (q : ℕ) → q < 32 → (1 * 2 ^ q) % 2 ^ 32 ≡ 2 ^ q
one_shl q l = shl_exact 1 q 32 (lit< tt) (omega arith) ∙ one-mul (2 ^ q)

-- Two numbers with the same bits are equal.
none : (y : ℕ) → ((q : ℕ) → bit y q ≡ 0) → 0 ≡ y
none = bin_ind (λ (n : ℕ). ((q : ℕ) → bit n q ≡ 0) → 0 ≡ n) (λ h. refl)
    (λ n ih h. omega (arith, ih (λ q. bit-half n q ∙ h (suc q)), sym (bit-low n) ∙ h 0))

pub bit-ext : (x y : ℕ) → ((q : ℕ) → bit x q ≡ bit y q) → x ≡ y
bit-ext =
    bin_ind (λ (n : ℕ). (y : ℕ) → ((q : ℕ) → bit n q ≡ bit y q) → n ≡ y)
    (λ y h. none y (λ q. sym (h q) ∙ bit-zero q))
    (λ n ih y h.
    omega (arith, ih (y / 2) (λ q. bit-half n q ∙ h (suc q) ∙ sym (bit-half y q)), sym (bit-low n) ∙ h 0 ∙ bit-low y))

-- A number that is not 0 has a bit.
pub some-bit : (x : ℕ) → (x ≡ 0 → ⊥) → (q : ℕ) × (bit x q ≡ 1)
some-bit = bin_ind (λ (n : ℕ). (n ≡ 0 → ⊥) → (q : ℕ) × (bit n q ≡ 1)) (λ h. absurd (h refl)) step
  where
    step : (n : ℕ) → ((n / 2 ≡ 0 → ⊥) → (q : ℕ) × (bit (n / 2) q ≡ 1)) → (n ≡ 0 → ⊥) → (q : ℕ) × (bit n q ≡ 1)
    step n ih h = go (n % 2) refl
      where
        go : (b : ℕ) → n % 2 ≡ b → (q : ℕ) × (bit n q ≡ 1)
        go zero e = let r = ih (λ z. h (omega arith)) in (suc r.0, sym (bit-half n r.0) ∙ r.1)
        go (suc b) e = (0, omega (arith, bit-low n))

-- An `or` has the bits of both, an `and` those that both have.
pub or-has : (a b q : ℕ) → (bit (bit_or a b) q ≡ 1) ↔ ((bit a q ≡ 1) ⊎ (bit b q ≡ 1))
or-has a b q = (to, ⊎_elim (λ h. omega (arith, bit-or a b q, bit-lt b q)) (λ h. omega (arith, bit-or a b q, bit-lt a q)))
  where
    to : bit (bit_or a b) q ≡ 1 → (bit a q ≡ 1) ⊎ (bit b q ≡ 1)
    to h = go (bit a q) refl
      where
        go : (x : ℕ) → bit a q ≡ x → (bit a q ≡ 1) ⊎ (bit b q ≡ 1)
        go zero e = inr (omega (arith, bit-or a b q))
        go (suc x) e = inl (omega arith)

pub and-has : (a b q : ℕ) → (bit (bit_and a b) q ≡ 1) ↔ ((bit a q ≡ 1) × (bit b q ≡ 1))
and-has a b q = (λ h. omega (arith, bit-and a b q, bit-lt a q, bit-lt b q), λ h. omega (arith, bit-and a b q))

-- A number is below 2 ^ n just where its bits are below n.
pub bit_below : (x n q : ℕ) → x < 2 ^ n → bit x q ≡ 1 → q < n
bit_below x n q l h = go (dec_lt q n)
  where
    go : Dec (q < n) → q < n
    go (yes b) = b
    go (no f) = absurd (omega (arith, ap (λ (y : ℕ). y % 2) (div-eq_of_lt (lt_of_lt_of_le l (pow_mono {i = n} {j = q} (omega arith)))), h))

pub lt-of-bits : (x n : ℕ) → ((q : ℕ) → bit x q ≡ 1 → q < n) → x < 2 ^ n
lt-of-bits x n h = subst (λ (y : ℕ). x < y) (one-mul (2 ^ n)) ((div-lt_iff_lt-mul (pow_pos n)).0 (omega (arith, bit-ext (x / 2 ^ n) 0 clear)))
  where
    clear : (q : ℕ) → bit (x / 2 ^ n) q ≡ bit 0 q
    clear q = bit-off (x / 2 ^ n) q (λ e. omega (arith, h (n + q) (sym (ap (λ (y : ℕ). y % 2) (shr-shr x n q)) ∙ e))) ∙ sym (bit-zero q)
