-- Laws of the part in which two logs agree: it is the longest there is, and no other number of entries is. For the code, the search that has come
-- to byte i.
-- Assumes nothing.
use Prim.Native.Nat.{ℕ, zero, suc, ◌+◌, ◌*◌, ◌≤◌, ◌<◌, min}
use native.Mathlib.Nat.{add-zero, add-suc}
use native.Mathlib.Omega.{arith}
use mathlib.Core.Path.{◌≡◌, refl, ap₂}
use mathlib.Core.Bool.{Bool, true, false}
use mathlib.Core.List.{List, [], ◌∷◌}
use lib.Dec.{eqb}
use lib.ListN.{length, get_or, take, drop, length-drop}
use lib.Seq.{drop-cons}
use borrow.Author.Tests.{eqb-true, eq-eqb, ne_eqb}
use Rattle.agreement.specs.Common.{counted, common_bytes, common_entries}
use Rattle.agreement.specs.Longest.{Longest}

-- ---- the bytes in common

-- both logs have them ..
pub common-within : (a b : List ℕ) → (common_bytes a b ≤ length a) × (common_bytes a b ≤ length b)
unfolding common_bytes
common-within [] b = (omega arith, omega arith)
common-within (x ∷ a) [] = (omega arith, omega arith)
common-within (x ∷ a) (y ∷ b) = by (eqb x y) (common-within a b)
  where
    by : (s : Bool) → (common_bytes a b ≤ length a) × (common_bytes a b ≤ length b)
        → (counted s (common_bytes a b) ≤ suc (length a)) × (counted s (common_bytes a b) ≤ suc (length b))
    by true h = (omega (arith, h.0), omega (arith, h.1))
    by false h = (omega arith, omega arith)

-- .. each as many of them are the same ..
pub common-same : (a b : List ℕ) (n : ℕ) → n ≤ common_bytes a b → take n a ≡ take n b
unfolding common_bytes
common-same a b zero h = refl
common-same [] b (suc n) h = absurd (omega arith)
common-same (x ∷ a) [] (suc n) h = absurd (omega arith)
common-same (x ∷ a) (y ∷ b) (suc n) h = by (eqb x y) refl h (common-same a b n)
  where
    by : (s : Bool) → eqb x y ≡ s → suc n ≤ counted s (common_bytes a b) → (n ≤ common_bytes a b → take n a ≡ take n b)
        → x ∷ take n a ≡ y ∷ take n b
    by true e l later = ap₂ ◌∷◌ (eqb-true x y e) (later (omega arith))
    by false e l later = absurd (omega arith)

-- .. and no more
pub same-common : (a b : List ℕ) (n : ℕ) → n ≤ length a → n ≤ length b → take n a ≡ take n b → n ≤ common_bytes a b
unfolding common_bytes
same-common a b zero h l e = omega arith
same-common [] b (suc n) h l e = absurd (omega arith)
same-common (x ∷ a) [] (suc n) h l e = absurd (omega arith)
same-common (x ∷ a) (y ∷ b) (suc n) h l e =
    let same : x ≡ y = cc in
    let rest : take n a ≡ take n b = cc in
    rw (eq-eqb x y same) (let m = same-common a b n (omega arith) (omega arith) rest in omega (arith, m))

-- ---- in whole entries

pub common-longest : (a b : List ℕ) → Longest a b (common_entries a b)
common-longest a b =
    let most = common-within a b in
    let few : 3 * common_entries a b ≤ common_bytes a b = omega arith in
    record {
      agrees = record { in_first = omega (arith, most.0); in_second = omega (arith, most.1); same = common-same a b (3 * common_entries a b) few };
      longest = λ j h. let m = same-common a b (3 * j) h.in_first h.in_second h.same in omega (arith, m);
    }

pub longest-once : (a b : List ℕ) (j k : ℕ) → Longest a b j → Longest a b k → j ≡ k
longest-once a b j k x y = omega (arith, x.longest k y.agrees, y.longest j x.agrees)

-- ---- a search that has come to byte i

module _ (a b : List ℕ) where
  -- what is left of it gives the answer
  pub record Searched (end i : ℕ) : Type 0 where
    pub both-have : end ≡ min (length a) (length b)
    pub left : common_bytes a b ≡ i + common_bytes (drop i a) (drop i b)

  pub searched-begins : (end : ℕ) → end ≡ min (length a) (length b) → Searched end 0
  searched-begins end e = record { both-have = e; left = omega arith }

  module _ (end i : ℕ) (h : Searched end i) where
    module _ (l : i < end) where
      here : common_bytes (drop i a) (drop i b) ≡ counted (eqb (get_or a i 0) (get_or b i 0)) (common_bytes (drop (i + 1) a) (drop (i + 1) b))
      unfolding common_bytes
      here =
          rw (drop-cons a i 0 (omega (arith, h.both-have)), drop-cons b i 0 (omega (arith, h.both-have)), add-suc i 0, add-zero i)

      pub searched-differs : (get_or a i 0 ≡ get_or b i 0 → ⊥) → i ≡ common_bytes a b
      searched-differs n =
          let none : common_bytes (drop i a) (drop i b) ≡ 0 = rw (here, ne_eqb _ _ n) in
          omega (arith, h.left, none)

      pub searched-on : get_or a i 0 ≡ get_or b i 0 → Searched end (i + 1)
      searched-on e =
          let more : common_bytes (drop i a) (drop i b) ≡ suc (common_bytes (drop (i + 1) a) (drop (i + 1) b)) = rw (here, eq-eqb _ _ e) in
          record { both-have = h.both-have; left = omega (arith, h.left, more) }

    pub searched-all : end ≤ i → i ≤ end → end ≡ common_bytes a b
    searched-all l within =
        let most = common-within (drop i a) (drop i b) in
        omega (arith, h.left, h.both-have, most.0, most.1, length-drop i a, length-drop i b)
