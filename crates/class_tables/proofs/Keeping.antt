-- A word that is found is right; and a word more keeps a cache a cache.
-- Assumes nothing.
use Rattle.std.proofs.Common.{◌≡◌, ℕ, ◌+◌, ◌*◌, ◌<◌, Bool, true, false, cond, eqb, ◌⊎◌, List, length, get_or, set, sym, refl, ap, ◌∙◌, inl, inr, arith, length-set, get_or-set_other, get_or-set_same, eq-eqb, ne_eqb, eqb-true}
use native.Mathlib.Decide.{ℕ_discrete}
use Rattle.model.specs.declared.Side.{Side}
use Rattle.algorithms.specs.Automaton.{Automaton}
use Rattle.class_tables.specs.Classes.{id_of, Node}
use Rattle.class_tables.specs.Cache.{index_at, key, key_in, word_in, word_under, Right, classes, indices, CachedIn}
use Rattle.class_tables.proofs.Laws.{node_alike}

-- ---- the word of a cell

pub of-key : (cell k : ℕ) → key_in cell ≡ k → word_under cell k ≡ word_in cell
unfolding word_under
of-key cell k e = rw (eq-eqb (key_in cell) k e)

pub of_other : (cell k : ℕ) → (key_in cell ≡ k → ⊥) → word_under cell k ≡ 0
unfolding word_under
of_other cell k n = rw (ne_eqb (key_in cell) k n)

-- ---- a word that is found

-- what a cell says under a key is right, if it is right where the key is the cell's
under : (P : ℕ → Type 0) (cell k : ℕ) → P 0 → (key_in cell ≡ k → P (word_in cell)) → P (word_under cell k)
unfolding word_under
under P cell k zero h = by (eqb (key_in cell) k) refl
  where
    by : (b : Bool) → eqb (key_in cell) k ≡ b → P (cond b (word_in cell) 0)
    by true e = h (eqb-true (key_in cell) k e)
    by false e = zero

pub word-right : (A : Automaton) (counts store maps cells : List ℕ) → CachedIn A counts store maps cells → (n σ l r : ℕ) → σ < 32 → l < classes counts
    → r < classes counts
    → Right A (classes counts) store σ l r (word_under (get_or cells n 0) (key (index_at maps Side.Left σ l) (index_at maps Side.Right σ r)))
word-right A counts store maps cells k n σ l r s hl hr =
    under (λ w. Right A (classes counts) store σ l r w) (get_or cells n 0) _ (λ h. absurd (omega arith)) (λ e. k.right n σ l r s hl hr e)

-- the number at a place, after a store
pub stored : (l : List ℕ) (at v x : ℕ) → at < length l → Dec (x ≡ at) → ((x ≡ at) × (get_or (set l at v) x 0 ≡ v)) ⊎ (get_or (set l at v) x 0 ≡ get_or l x 0)
stored l at v x h (yes e) = inl (e, rw e (get_or-set_same l at v 0 h))
stored l at v x h (no n) = inr (get_or-set_other l at x v 0 n)

-- ---- a word more

module _ (A : Automaton) (counts store maps cells : List ℕ) (k : CachedIn A counts store maps cells) (n σ l r w : ℕ) (within : n < 16384) (s : σ < 32)
    (hl : l < classes counts) (hr : r < classes counts) (some_left : 0 < index_at maps Side.Left σ l) (some_right : 0 < index_at maps Side.Right σ r)
    (small : w < 4294967296) (known : id_of w < classes counts) (node : Node A store σ l r w) where
  abbrev here : ℕ
  here = key (index_at maps Side.Left σ l) (index_at maps Side.Right σ r)

  abbrev cell : ℕ
  cell = here * 4294967296 + w

  abbrev cells' : List ℕ
  cells' = set cells n cell

  after : (m : ℕ) → (get_or cells' m 0 ≡ cell) ⊎ (get_or cells' m 0 ≡ get_or cells m 0)
  after m = by (stored cells n cell m (omega (arith, k.cells_size)) (ℕ_discrete m n))
    where
      by : ((m ≡ n) × (get_or cells' m 0 ≡ cell)) ⊎ (get_or cells' m 0 ≡ get_or cells m 0) → (get_or cells' m 0 ≡ cell) ⊎ (get_or cells' m 0 ≡ get_or cells m 0)
      by (inl p) = inl p.1
      by (inr e) = inr e

  left-used : index_at maps Side.Left σ l < indices counts Side.Left
  left-used = k.indexed Side.Left σ l s (omega (arith, k.few))

  right-used : index_at maps Side.Right σ r < indices counts Side.Right
  right-used = k.indexed Side.Right σ r s (omega (arith, k.few))

  keyed-after : (m x y : ℕ) → 0 < word_in (get_or cells' m 0) → y < 65536 → key_in (get_or cells' m 0) ≡ key x y
      → (0 < x) × (x < indices counts Side.Left) × (0 < y) × (y < indices counts Side.Right)
  keyed-after m x y some small-y e = by (after m)
    where
      by : (get_or cells' m 0 ≡ cell) ⊎ (get_or cells' m 0 ≡ get_or cells m 0)
          → (0 < x) × (x < indices counts Side.Left) × (0 < y) × (y < indices counts Side.Right)
      by (inl p) =
          let is : key x y ≡ here = omega (arith, e, p, small) in
          let more = k.few_indices Side.Right in
          let same-y : y ≡ index_at maps Side.Right σ r = omega (arith, is, right-used, more) in
          let same-x : x ≡ index_at maps Side.Left σ l = omega (arith, is, same-y) in
          rw (same-x, same-y) (some_left, left-used, some_right, right-used)
      by (inr p) = k.keyed m x y (rw p at some) small-y (sym (ap key_in p) ∙ e)

  right-after : (m σ' l' r' : ℕ) → σ' < 32 → l' < classes counts → r' < classes counts
      → key_in (get_or cells' m 0) ≡ key (index_at maps Side.Left σ' l') (index_at maps Side.Right σ' r')
      → Right A (classes counts) store σ' l' r' (word_in (get_or cells' m 0))
  right-after m σ' l' r' s' hl' hr' e = by (after m)
    where
      by : (get_or cells' m 0 ≡ cell) ⊎ (get_or cells' m 0 ≡ get_or cells m 0) → Right A (classes counts) store σ' l' r' (word_in (get_or cells' m 0))
      by (inl p) =
          let word : word_in (get_or cells' m 0) ≡ w = omega (arith, p, small) in
          let is : key (index_at maps Side.Left σ' l') (index_at maps Side.Right σ' r') ≡ here = omega (arith, e, p, small) in
          let more = k.few_indices Side.Right in
          let used = k.indexed Side.Right σ' r' s' (omega (arith, k.few)) in
          let same-right : index_at maps Side.Right σ r ≡ index_at maps Side.Right σ' r' = omega (arith, is, right-used, used, more) in
          let same_left : index_at maps Side.Left σ l ≡ index_at maps Side.Left σ' l' = omega (arith, is, same-right) in
          let left = k.alike Side.Left σ σ' l l' s s' hl hl' some_left same_left in
          let right = k.alike Side.Right σ σ' r r' s s' hr hr' some_right same-right in
          rw (word, ← left.0) (λ some. (known, node_alike A store σ l l' r r' w left.1 right.1 node))
      by (inr p) = rw p (k.right m σ' l' r' s' hl' hr' (sym (ap key_in p) ∙ e))

  pub word_more : CachedIn A counts store maps cells'
  word_more = record {
    counts_size = k.counts_size;
    store_size = k.store_size;
    maps_size = k.maps_size;
    cells_size = length-set cells n cell ∙ k.cells_size;
    some = k.some;
    few = k.few;
    blank = k.blank;
    some_indices = k.some_indices;
    few_indices = k.few_indices;
    indexed = k.indexed;
    none_yet = k.none_yet;
    alike = k.alike;
    keyed = keyed-after;
    right = right-after;
  }
