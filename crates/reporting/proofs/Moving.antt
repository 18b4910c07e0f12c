-- Bytes of a buffer, moved to its front one after another. Assumes nothing.
use Prim.Native.Nat.{ℕ, ◌+◌, ◌-◌, ◌≤◌, ◌<◌}
use native.Mathlib.Omega.{arith}
use native.Mathlib.Decide.{dec_lt}
use mathlib.Core.Path.{◌≡◌, refl, sym, ap, ◌∙◌}
use mathlib.Core.List.{List}
use lib.ListN.{length, get_or, set, take, drop, length-set}
use lib.Seq.{length-take-le, length-slice, get_or-set_same, get_or-set_other, get_or-take, get_or-drop, ext_get_or}

-- of the buffer l the first i bytes from a place on have been moved, and the others are as they were
pub record Moved (from : ℕ) (l : List ℕ) (i : ℕ) (l' : List ℕ) : Type 0 where
  pub size : length l' ≡ length l
  pub front : (j : ℕ) → j < i → get_or l' j 0 ≡ get_or l (from + j) 0
  pub others : (j : ℕ) → i ≤ j → get_or l' j 0 ≡ get_or l j 0

pub begun : (from : ℕ) (l : List ℕ) → Moved from l 0 l
begun from l = record { size = refl; front = λ j h. absurd (omega (arith, h)); others = λ j h. refl }

pub onward : (from : ℕ) (l : List ℕ) (i : ℕ) (l' : List ℕ) → i < length l → Moved from l i l' → Moved from l (i + 1) (set l' i (get_or l' (from + i) 0))
onward from l i l' h m = record {
  size = length-set l' i (get_or l' (from + i) 0) ∙ m.size;
  front = λ j b. by j b (dec_lt j i);
  others = λ j b. get_or-set_other l' i j (get_or l' (from + i) 0) 0 (λ e. omega (arith, b, e)) ∙ m.others j (omega (arith, b));
}
  where
    last : (j : ℕ) → j ≡ i → get_or (set l' i (get_or l' (from + i) 0)) j 0 ≡ get_or l (from + j) 0
    last j e =
        ap (λ (k : ℕ). get_or (set l' i (get_or l' (from + i) 0)) k 0) e
        ∙ get_or-set_same l' i (get_or l' (from + i) 0) 0 (omega (arith, h, m.size))
        ∙ m.others (from + i) (omega arith) ∙ ap (λ (k : ℕ). get_or l (from + k) 0) (sym e)

    by : (j : ℕ) → j < i + 1 → Dec (j < i) → get_or (set l' i (get_or l' (from + i) 0)) j 0 ≡ get_or l (from + j) 0
    by j b (yes k) = get_or-set_other l' i j (get_or l' (from + i) 0) 0 (λ e. omega (arith, k, e)) ∙ m.front j k
    by j b (no n) = last j (omega (arith, b, n))

-- all have been moved
pub all_moved : (from to : ℕ) (l : List ℕ) (i : ℕ) (l' : List ℕ) → from ≤ to → to ≤ length l → i ≡ to - from → Moved from l i l' → take i l' ≡ drop from (take to l)
all_moved from to l i l' h k e m =
    let left : length (take i l') ≡ i = length-take-le i l' (omega (arith, m.size, h, k, e)) in
    ext_get_or 0 (take i l') (drop from (take to l)) (left ∙ e ∙ sym (length-slice from to l k))
    (λ j b. get_or-take i l' j 0 (omega (arith, b, left)) ∙ m.front j (omega (arith, b, left))
    ∙ sym (get_or-drop from (take to l) j 0 ∙ get_or-take to l (from + j) 0 (omega (arith, b, left, e))))
