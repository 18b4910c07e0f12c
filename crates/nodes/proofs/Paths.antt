-- Where the next node is: the bits of the parts that wait fit their depth; up to the next part that waits by the zeros at the number's end.
-- Assumes nothing.
use Prim.Native.Nat.{ℕ, zero, suc, ◌+◌, ◌-◌, ◌*◌, ◌/◌, ◌%◌, ◌^◌, ◌≤◌, ◌<◌, max}
use native.Mathlib.Nat.{pow-suc, lt_of_lt_of_le, div-le_self}
use native.Mathlib.Numerals.{add-one}
use native.Mathlib.Omega.{arith}
use mathlib.Core.Path.{◌≡◌, refl, sym, ap, ap₂, ◌∙◌}
use mathlib.Core.Bool.{Bool, true, false}
use lib.Count.{count_trailing_zeros, under}
use lib.Bits.{bit_or, or_zero_r, or_step}
use lib.Dec.{eqb, ltb}
use borrow.Author.Tests.{le-ltb, eq-eqb, ne_eqb, ltb-true, ltb-false}
use lib.Pow.{pow_pos, pow-lt, pow_mono, shr-shr}
use Rattle.nodes.specs.declared.Path.{Path}
use Rattle.nodes.specs.Scan.{path_of, Fits, pick_path, risen_from, descended_from, moved_by, opened_by, path_after}

pick-fits : (t : Bool) (p q : Path) → Fits p → Fits q → Fits (pick_path t p q)
pick-fits true p q h k = h
pick-fits false p q h k = k

pub risen-fits : (d w : ℕ) → w < 2 ^ d → Fits (risen_from d w)
unfolding risen_from
risen-fits zero w h = pow_pos 66
risen-fits (suc d) w h =
    pick-fits (eqb (w % 2) 1) (path_of (suc d) (w - 1)) (risen_from d (w / 2)) (omega arith) (risen-fits d (w / 2) (omega (arith, pow-suc 2 d)))

descended-fits : (p : Path) → Fits p → Fits (descended_from p)
unfolding descended_from
descended-fits p h =
    pick-fits (eqb p.depth 64) (path_of 65 0) (path_of (p.depth + 1) (2 * p.waiting + 1)) (pow_pos 65) (rw (add-one p.depth) (omega (arith, pow-suc 2 p.depth)))

moved-fits : (branch : Bool) (p : Path) → Fits p → Fits (moved_by branch p)
moved-fits true p h = descended-fits p h
moved-fits false p h = risen-fits p.depth p.waiting h

pub path-fits : (p : Path) (branch : Bool) → Fits p → Fits (path_after p branch)
unfolding path_after
path-fits p branch h = pick-fits (ltb 64 p.depth) p (moved_by branch p) h (moved-fits branch p h)

pub risen-none : (d : ℕ) → risen_from d 0 ≡ path_of 66 0
unfolding risen_from
risen-none zero = refl
risen-none (suc d) = risen-none d

-- up by t: to an odd number
pub record Up (d w t : ℕ) (p : Path) : Type 0 where
  pub fewer : t < d
  pub some : 1 ≤ w / 2 ^ t
  pub risen : p ≡ path_of (d - t) (w / 2 ^ t - 1)

up_step : (d w t r : ℕ) → w % 2 ≡ r → (w % 2 ≡ 0 → Up d (w / 2) t (risen_from d (w / 2)))
    → Up (suc d) w (under r t) (pick_path (eqb r 1) (path_of (suc d) (w - 1)) (risen_from d (w / 2)))
up_step d w t zero e ih =
    let x = ih e in
    let half : w / 2 / 2 ^ t ≡ w / 2 ^ suc t = shr-shr w 1 t ∙ ap (λ (n : ℕ). w / 2 ^ n) (omega arith) in
    record {
      fewer = omega (arith, x.fewer);
      some = rw (← half) x.some;
      risen = x.risen ∙ ap₂ path_of (omega (arith, x.fewer)) (ap (λ (n : ℕ). n - 1) half);
    }
up_step d w t (suc zero) e ih = record { fewer = omega arith; some = omega arith; risen = ap₂ path_of (omega arith) (omega arith) }
up_step d w t (suc (suc r)) e ih = absurd (omega arith)

pub up : (k d w : ℕ) → 0 < w → w < 2 ^ d → w < 2 ^ k → Up d w (count_trailing_zeros k w) (risen_from d w)
unfolding risen_from count_trailing_zeros
up k zero w some h l = absurd (omega arith)
up zero (suc d) w some h l = absurd (omega arith)
up (suc k) (suc d) w some h l =
    up_step d w (count_trailing_zeros k (w / 2)) (w % 2) refl
    (λ e. up k d (w / 2) (omega arith) (omega (arith, pow-suc 2 d)) (omega (arith, pow-suc 2 k)))

-- ---- the next node with no jump: `one` is 1 for a branch and 0 for a leaf

-- a number whose lowest bit is set is odd, and has no zeros at its end
odd-or : (w : ℕ) → bit_or w 1 % 2 ≡ 1
odd-or w = let e = or_step w 1 in let m = odd-max (w % 2) (omega arith) in omega (arith, e, m)
  where
    odd-max : (r : ℕ) → r < 2 → max r 1 ≡ 1
    odd-max zero h = refl
    odd-max (suc zero) h = refl
    odd-max (suc (suc r)) h = absurd (omega arith)

odd-ends : (k n : ℕ) → n % 2 ≡ 1 → count_trailing_zeros (suc k) n ≡ 0
unfolding count_trailing_zeros
odd-ends k n e = rw e

-- below depth 64 the bits that wait leave room for one more
room : (d w : ℕ) → w < 2 ^ d → d ≤ 64 → (d ≡ 64 → ⊥) → w < 2 ^ 63
room d w h l n = go (ltb d 63) refl
  where
    go : (t : Bool) → ltb d 63 ≡ t → w < 2 ^ 63
    go true e = omega (arith, pow-lt {i = d} {j = 63} (ltb-true d 63 e))
    go false e = let last : d ≡ 63 = omega (arith, n, ltb-false d 63 e) in rw last at h

-- the path after the node: `up` steps up, then `one` down
pub record Next (p : Path) (branch : Bool) (one up : ℕ) : Type 0 where
  pub within : up ≤ p.depth
  pub few : up < 64
  pub most : one ≤ 1
  pub deep : p.depth - up + one ≡ 65 → path_of 65 0 ≡ path_after p branch
  pub fits : (p.depth - up + one ≡ 65 → ⊥) → p.waiting / 2 ^ up * 2 ^ one + one < 2 ^ 64
  pub some : 1 - one ≤ p.waiting / 2 ^ up * 2 ^ one + one
  pub goes : (p.depth - up + one ≡ 65 → ⊥) → path_of (p.depth - up + one) (p.waiting / 2 ^ up * 2 ^ one + one - (1 - one)) ≡ path_after p branch

after-branch : (p : Path) → Fits p → p.depth ≤ 64 → Next p true 1 0
unfolding path_after descended_from
after-branch p h low =
    record {
      within = omega arith;
      few = omega arith;
      most = omega arith;
      deep = λ e. let last : p.depth ≡ 64 = omega arith in rw (le-ltb 64 p.depth low, eq-eqb p.depth 64 last);
      fits = λ n. let w = room p.depth p.waiting h low (λ e. n (omega arith)) in omega arith;
      some = omega arith;
      goes = λ n. rw (le-ltb 64 p.depth low, ne_eqb p.depth 64 (λ e. n (omega arith))) (ap₂ path_of (omega arith) (omega arith));
    }

after-leaf : (p : Path) → Fits p → p.depth ≤ 64 → 0 < p.waiting → Next p false 0 (count_trailing_zeros 64 p.waiting)
unfolding path_after
after-leaf p h low some =
    let w = p.waiting in
    let d = p.depth in
    let t = count_trailing_zeros 64 w in
    let most : w < 2 ^ 64 = lt_of_lt_of_le h (pow_mono low) in
    let u = up 64 d w some h most in
    let v = up 64 64 w some most most in
    record {
      within = omega (arith, u.fewer);
      few = v.fewer;
      most = omega arith;
      deep = λ e. absurd (omega arith);
      fits = λ n. omega (arith, most, div-le_self w (2 ^ t));
      some = omega (arith, u.some);
      goes = λ n. rw (le-ltb 64 d low) (ap₂ path_of (omega arith) (omega arith) ∙ sym u.risen);
    }

pub next-is : (p : Path) (branch : Bool) (one : ℕ) → one ≡ opened_by branch → Fits p → p.depth ≤ 64 → (bit_or p.waiting one ≡ 0 → ⊥)
    → Next p branch one (count_trailing_zeros 64 (bit_or p.waiting one))
next-is p true one e h low n = rw (e, odd-ends 63 _ (odd-or p.waiting)) (after-branch p h low)
next-is p false one e h low n =
    let some : p.waiting ≡ 0 → ⊥ = λ z. n (rw (e, or_zero_r p.waiting) z) in
    rw (e, or_zero_r p.waiting) (after-leaf p h low (omega (arith, some)))

pub next-closed : (p : Path) (branch : Bool) (one : ℕ) → one ≡ opened_by branch → p.depth ≤ 64 → bit_or p.waiting one ≡ 0 → path_of 66 0 ≡ path_after p branch
unfolding path_after
next-closed p true one e low z = let odd = odd-or p.waiting in let zero : bit_or p.waiting 1 ≡ 0 = rw e at z in absurd (omega (arith, odd, zero))
next-closed p false one e low z =
    let none : p.waiting ≡ 0 = sym (or_zero_r p.waiting) ∙ (rw e at z) in
    rw (le-ltb 64 p.depth low, none) (sym (risen-none p.depth))
