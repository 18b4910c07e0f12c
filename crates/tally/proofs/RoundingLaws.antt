-- The laws of document 02's W3, "Percent at the half". Assumes nothing.
--     percent-right   `percent_of` is rounded as `PercentRight` says: "rounds a half to the even number"; there is one such number (rounds-once)
--     as_before       but for an exact half the percent is what document 01 had: "3 of 8 prints 38 as before"
use mathlib.Core.Path.{◌≡◌, refl, sym, ap, ◌∙◌}
use mathlib.Core.Logic.{◌≢◌, ◌⊎◌, inl, inr}
use mathlib.Core.Bool.{Bool, true, false}
use Prim.Native.Nat.{ℕ, ◌+◌, ◌-◌, ◌*◌, ◌/◌, ◌%◌, ◌<◌, ◌≤◌}
use native.Mathlib.Nat.{add-mul, mul_left_comm, mul-le-mul_right, div-add-mod', mod-lt, div-eq_of_lt-le}
use native.Mathlib.Omega.{arith}
use borrow.Author.Tests.{ltb-true, ltb-false, eqb-true, eqb-false, lt-ltb, le-ltb, eq-eqb, ne_eqb}
use lib.Dec.{eqb, ltb}
use Rattle.tally.specs.declared.Tally.{Tally}
use Rattle.tally.specs.Tally.{even_of, rounded_by, nearest, judged_in, percent_of}
use Rattle.tally.specs.Rounding.{distance, Rounded, PercentRight}

-- ---- distances

-- k numbers further on is k d further on
stretch : (k d r s : ℕ) → r + k ≤ s → r * d + k * d ≤ s * d
stretch k d r s h = rw (sym (add-mul r k d)) (mul-le-mul_right d h)

-- two numbers lie d apart or more
apart : (a d r s : ℕ) → s ≢ r → d ≤ distance a d r + distance a d s
apart a d r s other = go (ltb r s) refl
  where
    go : (b : Bool) → ltb r s ≡ b → d ≤ distance a d r + distance a d s
    go true e = omega (arith, stretch 1 d r s (omega (arith, ltb-true r s e)))
    go false e = omega (arith, stretch 1 d s r (omega (arith, ltb-false r s e, other)))

-- a number within half of d is rounded so, if it is even where it is just that half away
within-half : (a d r : ℕ) → 2 * distance a d r ≤ d → (2 * distance a d r ≡ d → r % 2 ≡ 0) → Rounded a d r
within-half a d r near half = record {
  nearest = λ s. go s (eqb s r) refl;
  even = λ s other e. half (omega (arith, near, apart a d r s other, e));
}
  where
    go : (s : ℕ) (b : Bool) → eqb s r ≡ b → distance a d r ≤ distance a d s
    go s true e = rw (eqb-true s r e) (omega arith)
    go s false e = omega (arith, near, apart a d r s (eqb-false s r e))

-- ---- the definition

pub rounded-down : (q twice d : ℕ) → twice < d → rounded_by q twice d ≡ q
rounded-down q twice d less = rw (lt-ltb twice d less)

pub rounded-up : (q twice d : ℕ) → d < twice → rounded_by q twice d ≡ q + 1
rounded-up q twice d more = rw (le-ltb twice d (omega (arith, more))) (rw (lt-ltb d twice more))

pub rounded-even : (q twice d : ℕ) → twice ≡ d → rounded_by q twice d ≡ even_of q
rounded-even q twice d half = rw (le-ltb twice d (omega (arith, half))) (rw (le-ltb d twice (omega (arith, half))))

-- what holds in each of the three cases holds
rounded-cases : (P : ℕ → Type 0) (q twice d : ℕ) → (twice < d → P q) → (d < twice → P (q + 1)) → (twice ≡ d → P (even_of q)) → P (rounded_by q twice d)
rounded-cases P q twice d down up even = go (ltb twice d) refl (ltb d twice) refl
  where
    go : (b : Bool) → ltb twice d ≡ b → (c : Bool) → ltb d twice ≡ c → P (rounded_by q twice d)
    go true l c m = rw (rounded-down q twice d (ltb-true twice d l)) (down (ltb-true twice d l))
    go false l true m = rw (rounded-up q twice d (ltb-true d twice m)) (up (ltb-true d twice m))
    go false l false m =
        let half : twice ≡ d = omega (arith, ltb-false twice d l, ltb-false d twice m) in
        rw (rounded-even q twice d half) (even half)

even-of : (q : ℕ) → even_of q % 2 ≡ 0
even-of q = omega arith

even-beside : (q : ℕ) → (even_of q ≡ q) ⊎ (even_of q ≡ q + 1)
even-beside q = go (eqb (q % 2) 0) refl
  where
    go : (b : Bool) → eqb (q % 2) 0 ≡ b → (even_of q ≡ q) ⊎ (even_of q ≡ q + 1)
    go true e = inl (omega (arith, eqb-true (q % 2) 0 e))
    go false e = inr (omega (arith, eqb-false (q % 2) 0 e))

-- q and what is left over are those of 100 a by d
module _ (a d q rest : ℕ) (whole : q * d + rest ≡ 100 * a) (below : rest < d) where
  from-q : distance a d q ≡ rest
  from-q = omega (arith, whole)

  from_next : distance a d (q + 1) ≡ d - rest
  from_next = rw (add-mul q 1 d) (omega (arith, whole, below))

  in-middle : 2 * rest ≡ d → Rounded a d (even_of q)
  in-middle half = go (even-beside q)
    where
      go : (even_of q ≡ q) ⊎ (even_of q ≡ q + 1) → Rounded a d (even_of q)
      go (inl e) = within-half a d (even_of q) (rw (ap (distance a d) e) (omega (arith, from-q, half))) (λ h. even-of q)
      go (inr e) = within-half a d (even_of q) (rw (ap (distance a d) e) (omega (arith, from_next, half))) (λ h. even-of q)

  by_parts : Rounded a d (rounded_by q (2 * rest) d)
  by_parts = rounded-cases (Rounded a d) q (2 * rest) d
      (λ less. within-half a d q (omega (arith, from-q, less)) (λ h. absurd (omega (arith, from-q, less, h))))
      (λ more. within-half a d (q + 1) (omega (arith, from_next, more)) (λ h. absurd (omega (arith, from_next, more, h))))
      in-middle

nearest-rounds : (a d : ℕ) → 0 < d → Rounded a d (nearest a d)
nearest-rounds a d some = by_parts a d (100 * a / d) (100 * a % d) (div-add-mod' (100 * a) d) (mod-lt (100 * a) some)

-- ---- what document 01 had

-- "rounded to the nearest, half upward": the half is added before the division, all over 2 d
abbrev upward : (a d : ℕ) → ℕ
upward a d = (200 * a + d) / (2 * d)

-- r is that number if r d, here m, is at most half of d away, and less than that below
upward-by : (a d r m : ℕ) → r * d ≡ m → 2 * m ≤ 200 * a + d → 200 * a < 2 * m + d → r ≡ upward a d
upward-by a d r m e low high = sym (div-eq_of_lt-le (2 * d) (rw double (omega (arith, low))) (rw (add-mul r 1 (2 * d)) (rw double (omega (arith, high)))))
  where
    double : r * (2 * d) ≡ 2 * m
    double = mul_left_comm r 2 d ∙ ap (λ n. 2 * n) e

pub as_before : (a d : ℕ) → 0 < d → 2 * (100 * a % d) ≢ d → nearest a d ≡ upward a d
as_before a d some no-half = go (100 * a / d) (100 * a % d) (div-add-mod' (100 * a) d) (mod-lt (100 * a) some) no-half
  where
    go : (q rest : ℕ) → q * d + rest ≡ 100 * a → rest < d → 2 * rest ≢ d → rounded_by q (2 * rest) d ≡ upward a d
    go q rest whole below other = rounded-cases (λ n. n ≡ upward a d) q (2 * rest) d
        (λ less. upward-by a d q (q * d) refl (omega (arith, whole)) (omega (arith, whole, less)))
        (λ more. upward-by a d (q + 1) (q * d + 1 * d) (add-mul q 1 d) (omega (arith, whole, more)) (omega (arith, whole, below)))
        (λ half. absurd (other half))

-- ---- no other number

-- two that are rounded so are equally near, so both even; then a number between them is nearer
not-two : (a d r s : ℕ) → 0 < d → Rounded a d r → Rounded a d s → r < s → ⊥
not-two a d r s some at-r at-s h =
    let same : distance a d s ≡ distance a d r = omega (arith, at-r.nearest s, at-s.nearest r) in
    let even-r = at-r.even s (λ e. omega (arith, e, h)) same in
    let even-s = at-s.even r (λ e. omega (arith, e, h)) (sym same) in
    let wide = stretch 2 d r s (omega (arith, even-r, even-s, h)) in
    let between : distance a d r ≤ (100 * a - (r * d + 1 * d)) + ((r * d + 1 * d) - 100 * a) = rw (sym (add-mul r 1 d)) (at-r.nearest (r + 1)) in
    omega (arith, same, wide, between, some)

pub rounds-once : (a d r s : ℕ) → 0 < d → Rounded a d r → Rounded a d s → r ≡ s
rounds-once a d r s some at-r at-s = go (ltb r s) refl (ltb s r) refl
  where
    go : (b : Bool) → ltb r s ≡ b → (c : Bool) → ltb s r ≡ c → r ≡ s
    go true e c f = absurd (not-two a d r s some at-r at-s (ltb-true r s e))
    go false e true f = absurd (not-two a d s r some at-s at-r (ltb-true s r f))
    go false e false f = omega (arith, ltb-false r s e, ltb-false s r f)

-- ---- the percent

pub percent-of-none : (t : Tally) → judged_in t ≡ 0 → percent_of t ≡ 0
unfolding percent_of
percent-of-none t none = rw (eq-eqb (judged_in t) 0 none)

pub percent-of-some : (t : Tally) → 0 < judged_in t → percent_of t ≡ nearest t.accepted (judged_in t)
unfolding percent_of
percent-of-some t some = rw (ne_eqb (judged_in t) 0 (λ e. omega (arith, e, some)))

percent-rounds : (t : Tally) → 0 < judged_in t → Rounded t.accepted (judged_in t) (percent_of t)
percent-rounds t some = rw (percent-of-some t some) (nearest-rounds t.accepted (judged_in t) some)

pub percent-right : (t : Tally) → PercentRight t (percent_of t)
percent-right t = record {
  none = percent-of-none t;
  rounded = percent-rounds t;
  only = λ some r h. rounds-once t.accepted (judged_in t) r (percent_of t) some h (percent-rounds t some);
}
