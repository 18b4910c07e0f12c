-- The lowest member of a set, and the set without it: what going through a set by its members rests on. Assumes nothing.
use mathlib.Core.Path.{◌≡◌, refl, sym, ap, ◌∙◌, subst}
use mathlib.Core.Logic.{◌⊎◌, inl, inr, ⊎_elim}
use Prim.Native.Nat.{ℕ, zero, suc, ◌+◌, ◌-◌, ◌*◌, ◌/◌, ◌%◌, ◌^◌, ◌≤◌, ◌<◌}
use native.Mathlib.Nat.{pow-suc, suc-mul, mod-lt}
use native.Mathlib.Omega.{arith}
use lib.Bits.{bit_or, bit_and, and_step, and_self, or_disjoint}
use lib.Count.{count_trailing_zeros, under}
use lib.Pow.{pow_pos, split, high}
use Rattle.relation.specs.Bit.{bit}
use Rattle.relation.proofs.BitLaws.{bit-off, bit-zero, bit-low, bit-half, bit-pow-eq, bit-ext, bit_below, or-has, and-has}
use Rattle.relation.specs.Lowest.{lowest_of, rest_of}

-- ---- trailing zeros of k digits

trailing-on : (k x : ℕ) → 0 < x → x < 2 ^ k → bit x (count_trailing_zeros k x) ≡ 1
unfolding count_trailing_zeros
trailing-on zero x h l = absurd (omega arith)
trailing-on (suc k) x h l = go (x % 2) refl (λ (e : x % 2 ≡ 0). trailing-on k (x / 2) (omega arith) (omega (arith, pow-suc 2 k)))
  where
    go : (r : ℕ) → x % 2 ≡ r → (x % 2 ≡ 0 → bit (x / 2) (count_trailing_zeros k (x / 2)) ≡ 1) → bit x (under r (count_trailing_zeros k (x / 2))) ≡ 1
    go zero e ih = sym (bit-half x (count_trailing_zeros k (x / 2))) ∙ ih e
    go (suc r) e ih = omega (arith, bit-low x)

-- `x & (x - 1)` clears the lowest bit.
trailing-rest : (k x : ℕ) → 0 < x → x < 2 ^ k → bit_and x (x - 1) + 2 ^ count_trailing_zeros k x ≡ x
unfolding count_trailing_zeros
trailing-rest zero x h l = absurd (omega arith)
trailing-rest (suc k) x h l = go (x % 2) refl (λ (e : x % 2 ≡ 0). trailing-rest k (x / 2) (omega arith) (omega (arith, pow-suc 2 k)))
  where
    go : (r : ℕ) → x % 2 ≡ r → (x % 2 ≡ 0 → bit_and (x / 2) (x / 2 - 1) + 2 ^ count_trailing_zeros k (x / 2) ≡ x / 2)
        → bit_and x (x - 1) + 2 ^ under r (count_trailing_zeros k (x / 2)) ≡ x
    go zero e ih =
        let t = count_trailing_zeros k (x / 2) in
        let h : (x - 1) / 2 ≡ x / 2 - 1 = omega arith in
        omega (arith, and_step x (x - 1), ap (bit_and (x / 2)) h, pow-suc 2 t, ih e)
    go (suc r) e ih =
        let h : (x - 1) / 2 ≡ x / 2 = omega arith in
        omega (arith, and_step x (x - 1), ap (bit_and (x / 2)) h, and_self (x / 2))

-- ---- a set without one of its members

clear_at : (x k : ℕ) → bit x k ≡ 1 → (2 ^ k ≤ x) × (bit (x - 2 ^ k) k ≡ 0)
clear_at x k h =
    let s : x / 2 ^ k * 2 ^ k + x % 2 ^ k ≡ x = split x k in
    let e : x / 2 ^ k ≡ suc (x / 2 ^ k - 1) = omega arith in
    let m : x / 2 ^ k * 2 ^ k ≡ (x / 2 ^ k - 1) * 2 ^ k + 2 ^ k = ap (λ (y : ℕ). y * 2 ^ k) e ∙ suc-mul (x / 2 ^ k - 1) (2 ^ k) in
    let d : x - 2 ^ k ≡ (x / 2 ^ k - 1) * 2 ^ k + x % 2 ^ k = omega (arith, s, m) in
    (omega (arith, s, m), ap (λ (y : ℕ). y / 2 ^ k % 2) d ∙ ap (λ (y : ℕ). y % 2) (high (x / 2 ^ k - 1) k (mod-lt x (pow_pos k))) ∙ omega arith)

join-clear : (x k : ℕ) → bit x k ≡ 1 → bit_or (x - 2 ^ k) (2 ^ k) ≡ x
join-clear x k on = or_disjoint (x - 2 ^ k) (2 ^ k) (bit-ext (bit_and (x - 2 ^ k) (2 ^ k)) 0 apart) ∙ omega (arith, (clear_at x k on).0)
  where
    apart : (q : ℕ) → bit (bit_and (x - 2 ^ k) (2 ^ k)) q ≡ bit 0 q
    apart q =
        bit-off (bit_and (x - 2 ^ k) (2 ^ k)) q
        (λ h.
        let b = (and-has (x - 2 ^ k) (2 ^ k) q).0 h in
        let e = bit-pow-eq k q b.1 in
        omega (arith, subst (λ (j : ℕ). bit (x - 2 ^ k) j ≡ 1) (sym e) b.0, (clear_at x k on).1))
        ∙ sym (bit-zero q)

-- Every other member stays.
pub clear-other : (x k q : ℕ) → bit x k ≡ 1 → (q ≡ k → ⊥) → bit x q ≡ 1 → bit (x - 2 ^ k) q ≡ 1
clear-other x k q on n h =
    ⊎_elim (λ g. g) (λ g. absurd (n (sym (bit-pow-eq k q g))))
    ((or-has (x - 2 ^ k) (2 ^ k) q).0 (subst (λ (y : ℕ). bit y q ≡ 1) (sym (join-clear x k on)) h))

-- ---- the lowest member

module _ (x : ℕ) (some : 0 < x) (l : x < 2 ^ 32) where
  pub lowest-on : bit x (lowest_of x) ≡ 1
  unfolding lowest_of
  lowest-on = trailing-on 32 x some l

  pub lowest-lt : (n : ℕ) → x < 2 ^ n → lowest_of x < n
  lowest-lt n h = bit_below x n (lowest_of x) h lowest-on

  pub and-rest : bit_and x (x - 1) ≡ rest_of x
  unfolding rest_of lowest_of
  and-rest = omega (arith, trailing-rest 32 x some l)

  pub rest-less : rest_of x < x
  unfolding rest_of
  rest-less = omega (arith, pow_pos (lowest_of x))

  join-rest : bit_or (rest_of x) (2 ^ lowest_of x) ≡ x
  unfolding rest_of
  join-rest = join-clear x (lowest_of x) lowest-on

  pub rest_in : (q : ℕ) → bit (rest_of x) q ≡ 1 → bit x q ≡ 1
  rest_in q h = subst (λ (y : ℕ). bit y q ≡ 1) join-rest ((or-has (rest_of x) (2 ^ lowest_of x) q).1 (inl h))

  pub rest_out : (q : ℕ) → bit x q ≡ 1 → (bit (rest_of x) q ≡ 1) ⊎ (q ≡ lowest_of x)
  rest_out q h =
      ⊎_elim inl (λ g. inr (sym (bit-pow-eq (lowest_of x) q g)))
      ((or-has (rest_of x) (2 ^ lowest_of x) q).0 (subst (λ (y : ℕ). bit y q ≡ 1) (sym join-rest) h))
