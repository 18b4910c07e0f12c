-- Tables with no index and no word are a cache of every automaton.
-- Assumes nothing.
use Rattle.std.proofs.Common.{◌≡◌, ℕ, zero, suc, ◌+◌, ◌<◌, List, length, get_or, replicate, sym, refl, ◌∙◌, arith}
use native.Mathlib.Decide.{dec_lt}
use lib.ListN.{get_or-eq_default}
use Rattle.relation.specs.Rows.{no_pairs}
use Rattle.model.specs.declared.Side.{Side}
use Rattle.algorithms.specs.Automaton.{Automaton}
use Rattle.overloops.proofs.Laws.{side-small, part-is}
use Rattle.class_tables.specs.Classes.{rows_place, rows_of}
use Rattle.class_tables.specs.Cache.{index_place, classes, indices, CachedIn, Kept}

pub zeros : (n i : ℕ) → get_or {A = ℕ} (replicate n 0) i 0 ≡ 0
zeros zero i = refl
zeros (suc n) zero = refl
zeros (suc n) (suc i) = zeros n i

-- a list that has 0 wherever it has a number has 0 everywhere
pub all-zero : (l : List ℕ) → ((i : ℕ) → i < length l → get_or l i 0 ≡ 0) → (i : ℕ) → get_or l i 0 ≡ 0
all-zero l h i = by (dec_lt i (length l))
  where
    by : Dec (i < length l) → get_or l i 0 ≡ 0
    by (yes b) = h i b
    by (no n) = get_or-eq_default l 0 {n = i} (omega arith)

-- the relations of a class in a store of zeros
pub no-pairs : (store : List ℕ) → length store ≡ 49152 → ((i : ℕ) → get_or store i 0 ≡ 0) → (s : Side) → rows_of store 0 s ≡ no_pairs
unfolding rows_of
no-pairs store e z s =
    let small = side-small s in
    part-is store (rows_place 0 s) (omega arith) no_pairs refl (λ p h. z (rows_place 0 s + p) ∙ sym (zeros 24 p))

pub empty : (A : Automaton) (counts store maps cells : List ℕ) → length counts ≡ 6 → length store ≡ 49152 → length maps ≡ 66560 → length cells ≡ 16384
    → classes counts ≡ 1 → ((s : Side) → indices counts s ≡ 1) → ((s : Side) → rows_of store 0 s ≡ no_pairs) → ((i : ℕ) → get_or maps i 0 ≡ 0)
    → ((i : ℕ) → get_or cells i 0 ≡ 0) → CachedIn A counts store maps cells
empty A counts store maps cells lu ls lm lc one ones blank zm zc = record {
  counts_size = lu;
  store_size = ls;
  maps_size = lm;
  cells_size = lc;
  some = omega arith;
  few = omega arith;
  blank = blank;
  some_indices = λ s. omega (arith, ones s);
  few_indices = λ s. omega (arith, ones s);
  indexed = λ s σ i b h. omega (arith, ones s, zm (index_place s σ i));
  none_yet = λ s σ i b h l. zm (index_place s σ i);
  alike = λ s σ σ' i j b b' hi hj some e. absurd (omega (arith, zm (index_place s σ i)));
  keyed = λ n l r some small e. absurd (omega (arith, zc n));
  right = λ n σ l r b hl hr e some. absurd (omega (arith, zc n));
}

pub kept-cache : (A : Automaton) (counts counts' store maps cells : List ℕ) → Kept counts counts' → CachedIn A counts store maps cells
    → CachedIn A counts' store maps cells
kept-cache A counts counts' store maps cells kept k =
    let n = kept.classes_are in
    record {
      counts_size = kept.size ∙ k.counts_size;
      store_size = k.store_size;
      maps_size = k.maps_size;
      cells_size = k.cells_size;
      some = rw n k.some;
      few = rw n k.few;
      blank = k.blank;
      some_indices = λ s. rw (kept.indices_are s) (k.some_indices s);
      few_indices = λ s. rw (kept.indices_are s) (k.few_indices s);
      indexed = λ s σ i b h. rw (kept.indices_are s) (k.indexed s σ i b h);
      none_yet = λ s σ i b h l. k.none_yet s σ i b h (rw (← n) l);
      alike = λ s σ σ' i j b b' hi hj. k.alike s σ σ' i j b b' (rw (← n) hi) (rw (← n) hj);
      keyed = λ m x y some small e. rw (kept.indices_are Side.Left, kept.indices_are Side.Right) (k.keyed m x y some small e);
      right = λ m σ l r b hl hr e. rw n (k.right m σ l r b (rw (← n) hl) (rw (← n) hr) e);
    }
