-- The cache: lent tables that hold the classes met so far and, of nodes over them, the classes that were computed. 0 is: not known yet.
-- At a symbol a class has an index as a left part and one as a right part; classes that do the same there may share it. A cell is a key, made
-- of the indices of a node's two parts, over a word, which names the node's class and has its growths. Where a key stands among the cells does not matter.
-- Interface: `index_at`, `key`, `word_under`, `Right`, `classes`, `indices`, `CachedIn`, `Cached`, `Fresh`, `After`, `AfterCall`, `Kept`.
use Rattle.std.specs.Prelude.{◌≡◌, ℕ, ◌+◌, ◌*◌, ◌/◌, ◌%◌, ◌<◌, ◌≤◌, cond, List, [], ◌∷◌, replicate, length, ◌==◌, slice_index}
use Rattle.relation.specs.Rows.{no_pairs}
use Rattle.model.specs.declared.Side.{Side}
use Rattle.algorithms.specs.Automaton.{Automaton}
use Rattle.overloops.specs.Tables.{side_number}
use Rattle.class_tables.specs.Classes.{rows_of, id_of, Node, Alike, Same}
use Rattle.class_tables.specs.declared.Cache.{Cache}

-- the index of class i as a part on a side of a node with the symbol σ, and where it stands
abbrev pub index_place : Side → (σ i : ℕ) → ℕ
index_place s σ i = (side_number s * 32 + σ) * 1040 + i

abbrev pub index_at : (maps : List ℕ) → Side → (σ i : ℕ) → ℕ
index_at maps s σ i = slice_index maps (index_place s σ i)

-- a cell: the key of two indices, and a word
abbrev pub key : (left right : ℕ) → ℕ
key left right = left * 65536 + right

abbrev pub key_in : ℕ → ℕ
key_in cell = cell / 4294967296

abbrev pub word_in : ℕ → ℕ
word_in cell = cell % 4294967296

-- the word of a cell, by its key; 0 by any other
unfoldable pub word_under : (cell k : ℕ) → ℕ
word_under cell k = cond (key_in cell == k) (word_in cell) 0

-- a word that is not 0 names the class of the node, one of those there are, and tells its growths
abbrev pub Right : Automaton → (count : ℕ) (store : List ℕ) (σ l r w : ℕ) → Type 0
Right A count store σ l r w = 0 < w → (id_of w < count) × Node A store σ l r w

-- what the table of counts has: the classes there are, and the indices in use on a side (index 0 is none)
abbrev pub classes : (counts : List ℕ) → ℕ
classes counts = slice_index counts 0

abbrev pub indices : (counts : List ℕ) → Side → ℕ
indices counts s = slice_index counts (1 + side_number s)

-- the lent tables are a cache of the automaton: every word is right, of whatever node its key is
pub record CachedIn (A : Automaton) (counts store maps cells : List ℕ) : Type 0 where
  pub counts_size : length counts ≡ 6
  pub store_size : length store ≡ 49152
  pub maps_size : length maps ≡ 66560
  pub cells_size : length cells ≡ 16384
  pub some : 0 < classes counts
  pub few : classes counts ≤ 1024
  -- class 0 is that of the parts of a leaf
  pub blank : (s : Side) → rows_of store 0 s ≡ no_pairs
  -- indices are in use; classes to come have none
  pub some_indices : (s : Side) → 0 < indices counts s
  pub few_indices : (s : Side) → indices counts s ≤ 65536
  pub indexed : (s : Side) (σ i : ℕ) → σ < 32 → i < 1024 → index_at maps s σ i < indices counts s
  pub none_yet : (s : Side) (σ i : ℕ) → σ < 32 → i < 1024 → classes counts ≤ i → index_at maps s σ i ≡ 0
  -- an index is of one symbol, and classes that share it do the same there
  pub alike : (s : Side) (σ σ' i j : ℕ) → σ < 32 → σ' < 32 → i < classes counts → j < classes counts
      → 0 < index_at maps s σ i → index_at maps s σ i ≡ index_at maps s σ' j → (σ ≡ σ') × Alike A store σ s i j
  -- a word stands under indices that are in use, and is right
  pub keyed : (n l r : ℕ) → 0 < word_in (slice_index cells n) → r < 65536 → key_in (slice_index cells n) ≡ key l r
      → (0 < l) × (l < indices counts Side.Left) × (0 < r) × (r < indices counts Side.Right)
  pub right : (n σ l r : ℕ) → σ < 32 → l < classes counts → r < classes counts
      → key_in (slice_index cells n) ≡ key (index_at maps Side.Left σ l) (index_at maps Side.Right σ r) → Right A (classes counts) store σ l r (word_in (slice_index cells n))

-- so are those of a cache that is lent whole
abbrev pub Cached : Automaton → Cache → Type 0
Cached A cache = CachedIn A cache.counts cache.store cache.maps cache.cells

-- a cache as it begins: class 0 alone, no index in use, some credit, and zeros
abbrev pub Fresh : Cache → Type 0
Fresh cache =
    (cache.counts ≡ 1 ∷ 1 ∷ 1 ∷ 1 ∷ 2048 ∷ 1 ∷ []) × (cache.store ≡ replicate 49152 0) × (cache.maps ≡ replicate 66560 0)
    × (cache.cells ≡ replicate 16384 0) × (cache.hints ≡ replicate 6144 0)

-- what a call leaves of the cache: a cache, in which the classes there were are what they were
pub record After (A : Automaton) (counts store counts' store' maps' cells' : List ℕ) : Type 0 where
  pub cached : CachedIn A counts' store' maps' cells'
  pub same : Same (classes counts) store store'
  pub more : classes counts ≤ classes counts'

-- so of a cache that is lent whole
abbrev pub AfterCall : Automaton → (cache cache' : Cache) → Type 0
AfterCall A cache cache' = After A cache.counts cache.store cache'.counts cache'.store cache'.maps cache'.cells

-- counts that stay but for those that the cache does not go by
pub record Kept (counts counts' : List ℕ) : Type 0 where
  pub size : length counts' ≡ length counts
  pub classes_are : classes counts' ≡ classes counts
  pub indices_are : (s : Side) → indices counts' s ≡ indices counts s
