-- Laws of the numbers of a set, rising, and of what a list of numbers stands for: one number more at the end, and the numbers left.
-- Assumes nothing.
use Prim.Native.Nat.{ℕ, zero, suc, ◌+◌, ◌-◌, ◌≤◌, ◌<◌}
use mathlib.Core.Path.{◌≡◌, refl, sym, ap, ◌∙◌}
use mathlib.Core.Bool.{Bool, true, false}
use mathlib.Core.List.{List, [], ◌∷◌, ◌++◌, map, flat_map}
use native.Mathlib.Nat.{zero-add, add-zero}
use native.Mathlib.Omega.{arith}
use lib.Dec.{eqb}
use borrow.Author.Tests.{eqb-true, eqb-false}
use Rattle.relation.specs.Bit.{bit}
use Rattle.relation.proofs.BitLaws.{bit-off}
use Rattle.relation.specs.Sets.{member}
use Rattle.model.specs.Lists.{count_from}
use Rattle.model.proofs.Turns.{count_from-snoc, flat_map-append, flat_map-snoc}
use Rattle.model.proofs.FreshRows.{count_from-append}
use Rattle.algorithms.specs.Automaton.{cons_if, numbered}

cons_if-append : (t : Bool) (x : ℕ) (xs ys : List ℕ) → cons_if t x (xs ++ ys) ≡ cons_if t x xs ++ ys
cons_if-append true x xs ys = refl
cons_if-append false x xs ys = refl

pub numbered-snoc : (b set at k : ℕ) → numbered b set at (suc k) ≡ numbered b set at k ++ cons_if (eqb (bit set (at + k)) b) (at + k) []
numbered-snoc b set at zero = rw (add-zero at) refl
numbered-snoc b set at (suc k) =
    let e : suc at + k ≡ at + suc k = omega arith in
    ap (cons_if (eqb (bit set at) b) at) (numbered-snoc b set (suc at) k)
    ∙ cons_if-append (eqb (bit set at) b) at (numbered b set (suc at) k) (cons_if (eqb (bit set (suc at + k)) b) (suc at + k) [])
    ∙ ap (λ (n : ℕ). numbered b set at (suc k) ++ cons_if (eqb (bit set n) b) n []) e

pub numbered-append : (b set at k m : ℕ) → numbered b set at (k + m) ≡ numbered b set at k ++ numbered b set (at + k) m
numbered-append b set at zero m = rw (zero-add m, add-zero at) refl
numbered-append b set at (suc k) m =
    let e : suc k + m ≡ suc (k + m) = omega arith in
    let f : suc at + k ≡ at + suc k = omega arith in
    rw e
    (ap (cons_if (eqb (bit set at) b) at) (numbered-append b set (suc at) k m)
    ∙ cons_if-append (eqb (bit set at) b) at (numbered b set (suc at) k) (numbered b set (suc at + k) m)
    ∙ ap (λ (n : ℕ). numbered b set at (suc k) ++ numbered b set n m) f)

module _ {B : Type 0} (f : ℕ → List B) where
  -- the numbers from s on, below i, below i + 1 and below e
  pub range_none : (s : ℕ) → flat_map f (count_from s (s - s)) ≡ []
  unfolding flat_map count_from
  range_none s = let e : s - s ≡ 0 = omega arith in rw e refl

  pub range_snoc : (s i : ℕ) → s ≤ i → flat_map f (count_from s (i + 1 - s)) ≡ flat_map f (count_from s (i - s)) ++ f i
  range_snoc s i l =
      let e : i + 1 - s ≡ suc (i - s) = omega arith in
      let g : s + (i - s) ≡ i = omega arith in
      rw (e, count_from-snoc s (i - s), g) (flat_map-snoc f (count_from s (i - s)) i)

  pub range_split : (s i e : ℕ) → s ≤ i → i < e → flat_map f (count_from s (e - s)) ≡ flat_map f (count_from s (i + 1 - s)) ++ flat_map f (count_from (i + 1) (e - (i + 1)))
  range_split s i e l h =
      let d : e - s ≡ (i + 1 - s) + (e - (i + 1)) = omega arith in
      let g : s + (i + 1 - s) ≡ i + 1 = omega arith in
      rw (d, count_from-append s (i + 1 - s) (e - (i + 1)), g) (flat_map-append f (count_from s (i + 1 - s)) (count_from (i + 1) (e - (i + 1))))

  -- the same from 0 on
  pub count-snoc : (i : ℕ) → flat_map f (count_from 0 (i + 1)) ≡ flat_map f (count_from 0 i) ++ f i
  count-snoc i =
      let e : i + 1 - 0 ≡ i + 1 = omega arith in
      let g : i - 0 ≡ i = omega arith in
      rw (e, g) at (range_snoc 0 i (omega arith))

  pub count-split : (i e : ℕ) → i < e → flat_map f (count_from 0 e) ≡ flat_map f (count_from 0 (i + 1)) ++ flat_map f (count_from (i + 1) (e - (i + 1)))
  count-split i e h =
      let d : e - 0 ≡ e = omega arith in
      let g : i + 1 - 0 ≡ i + 1 = omega arith in
      rw (d, g) at (range_split 0 i e (omega arith) h)

  -- the numbers of a set below i, below i + 1 and below e
  pub set_snoc : (b set i : ℕ) → flat_map f (numbered b set 0 (i + 1)) ≡ flat_map f (numbered b set 0 i) ++ flat_map f (cons_if (eqb (bit set i) b) i [])
  set_snoc b set i =
      let e : i + 1 ≡ suc i = omega arith in
      rw (e, numbered-snoc b set 0 i, zero-add i) (flat_map-append f (numbered b set 0 i) (cons_if (eqb (bit set i) b) i []))

  pub set_split : (b set i e : ℕ) → i < e → flat_map f (numbered b set 0 e) ≡ flat_map f (numbered b set 0 (i + 1)) ++ flat_map f (numbered b set (i + 1) (e - (i + 1)))
  set_split b set i e h =
      let d : e ≡ (i + 1) + (e - (i + 1)) = omega arith in
      let g : 0 + (i + 1) ≡ i + 1 = omega arith in
      ap (λ (n : ℕ). flat_map f (numbered b set 0 n)) d
      ∙ ap (flat_map f) (numbered-append b set 0 (i + 1) (e - (i + 1)) ∙ ap (λ (n : ℕ). numbered b set 0 (i + 1) ++ numbered b set n (e - (i + 1))) g)
      ∙ flat_map-append f (numbered b set 0 (i + 1)) (numbered b set (i + 1) (e - (i + 1)))

pub map-flat : {B : Type 0} (f : ℕ → B) (l : List ℕ) → map f l ≡ flat_map (λ i. f i ∷ []) l
unfolding flat_map
map-flat f [] = refl
map-flat f (i ∷ l) = rw (map-flat f l) refl

-- a symbol that is in a set, and one that is not, as lists
pub in-set : (set σ : ℕ) {t : Bool} → t ≡ member set σ → t ≡ true → (cons_if (eqb (bit set σ) 1) σ [] ≡ σ ∷ []) × (cons_if (eqb (bit set σ) 0) σ [] ≡ [])
unfolding member
in-set set σ e t =
    let one : bit set σ ≡ 1 = eqb-true (bit set σ) 1 (sym e ∙ t) in
    (rw one refl, rw one refl)

pub not-in-set : (set σ : ℕ) {t : Bool} → t ≡ member set σ → t ≡ false → (cons_if (eqb (bit set σ) 1) σ [] ≡ []) × (cons_if (eqb (bit set σ) 0) σ [] ≡ σ ∷ [])
unfolding member
not-in-set set σ e t =
    let zero' : bit set σ ≡ 0 = bit-off set σ (eqb-false (bit set σ) 1 (sym e ∙ t)) in
    (rw zero' refl, rw zero' refl)
