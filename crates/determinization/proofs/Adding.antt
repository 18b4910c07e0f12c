-- A class more keeps a cache a cache.
-- Assumes nothing.
use Prim.Native.Nat.{ℕ, ◌+◌, ◌<◌}
use native.Mathlib.Omega.{arith}
use native.Mathlib.Decide.{dec_lt}
use mathlib.Core.Path.{◌≡◌, ◌∙◌}
use mathlib.Core.List.{List}
use lib.ListN.{length, get_or, set, length-set}
use lib.Seq.{get_or-set_same, get_or-set_other}
use Rattle.model.specs.declared.Side.{Side}
use Rattle.algorithms.specs.Automaton.{Automaton}
use Rattle.overloops.specs.Tables.{side_number}
use Rattle.class_tables.specs.Classes.{id_of, Node, Alike, Same}
use Rattle.class_tables.specs.Cache.{index_at, word_in, classes, indices, CachedIn}

-- counts that stay but for what is said
pub record Counted (counts counts' : List ℕ) (n : ℕ) : Type 0 where
  pub size : length counts' ≡ 6
  pub classes_are : classes counts' ≡ n
  pub indices_are : (s : Side) → indices counts' s ≡ indices counts s

module _ (A : Automaton) (counts counts' store store' maps cells : List ℕ) (k : CachedIn A counts store maps cells) (room : classes counts < 1024)
    (counted : Counted counts counts' (classes counts + 1)) (size : length store' ≡ 49152) (same : Same (classes counts) store store') where
  -- the new class has no index
  older : (s : Side) (σ i : ℕ) → σ < 32 → i < classes counts + 1 → 0 < index_at maps s σ i → i < classes counts
  older s σ i b h some = by (dec_lt i (classes counts))
    where
      by : Dec (i < classes counts) → i < classes counts
      by (yes l) = l
      by (no n) = absurd (omega (arith, k.none_yet s σ i b (omega arith) (omega arith)))

  same_alike : (σ i j : ℕ) (s : Side) → i < classes counts → j < classes counts → Alike A store σ s i j → Alike A store' σ s i j
  same_alike σ i j s hi hj h τ = rw (same i s hi, same j s hj) (h τ)

  same-node : (σ l r w : ℕ) → l < classes counts → r < classes counts → id_of w < classes counts → Node A store σ l r w → Node A store' σ l r w
  same-node σ l r w hl hr hw h = record {
    rows = λ s. rw (same (id_of w) s hw, same l Side.Left hl, same r Side.Right hr) (h.rows s);
    growth = λ s. rw (same l Side.Left hl, same r Side.Right hr) (h.growth s);
  }

  pub class-more : CachedIn A counts' store' maps cells
  class-more =
      let n = counted.classes_are in
      record {
        counts_size = counted.size;
        store_size = size;
        maps_size = k.maps_size;
        cells_size = k.cells_size;
        some = omega arith;
        few = omega arith;
        blank = λ s. same 0 s k.some ∙ k.blank s;
        some_indices = λ s. rw (counted.indices_are s) (k.some_indices s);
        few_indices = λ s. rw (counted.indices_are s) (k.few_indices s);
        indexed = λ s σ i b h. rw (counted.indices_are s) (k.indexed s σ i b h);
        none_yet = λ s σ i b h l. k.none_yet s σ i b h (omega arith);
        alike = λ s σ σ' i j b b' hi hj some e.
            let oi = older s σ i b (omega arith) some in
            let oj = older s σ' j b' (omega arith) (omega arith) in
            let h = k.alike s σ σ' i j b b' oi oj some e in
            (h.0, same_alike σ i j s oi oj h.1);
        keyed = λ m x y some small e. rw (counted.indices_are Side.Left, counted.indices_are Side.Right) (k.keyed m x y some small e);
        right = λ m σ l r b hl hr e some.
            let used = k.keyed m _ _ some (omega (arith, k.indexed Side.Right σ r b (omega arith), k.few_indices Side.Right)) e in
            let ol = older Side.Left σ l b (omega arith) used.0 in
            let or = older Side.Right σ r b (omega arith) used.2 in
            let h = k.right m σ l r b ol or e some in
            (omega (arith, h.0), same-node σ l r (word_in (get_or cells m 0)) ol or h.0 h.1);
      }

pub class-counted : (counts : List ℕ) → length counts ≡ 6 → Counted counts (set counts 0 (classes counts + 1)) (classes counts + 1)
class-counted counts e = record {
  size = length-set counts 0 (classes counts + 1) ∙ e;
  classes_are = get_or-set_same counts 0 (classes counts + 1) 0 (omega arith);
  indices_are = λ s. get_or-set_other counts 0 (1 + side_number s) (classes counts + 1) 0 (λ e. omega arith);
}
