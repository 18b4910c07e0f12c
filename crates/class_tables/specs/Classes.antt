-- Classes of trees: the overloops as a left part and as a right part, 48 words a class in a lent store.
-- Interface: `rows_of`, `Tells`, `id_of`, `growth_in`, `TellsWord`, `Node`, `Alike`, `Same`, `IsClass`.
use Rattle.std.specs.Prelude.{◌≡◌, ℕ, ◌+◌, ◌*◌, ◌/◌, ◌%◌, ◌<◌, List, take, drop}
use Rattle.relation.specs.Rows.{composed}
use Rattle.model.specs.Trees.{Tree}
use Rattle.model.specs.declared.Side.{Side}
use Rattle.model.specs.declared.Place.{Place}
use Rattle.model.specs.declared.Move.{Move}
use Rattle.algorithms.specs.Automaton.{Automaton}
use Rattle.algorithms.specs.Overloops.{moves, overloops, node_overloops}
use Rattle.algorithms.specs.Growth.{own_growth, node_growth}
use Rattle.overloops.specs.Tables.{side_number}

-- where the rows of class i as a part on a side begin, and the rows
abbrev pub rows_place : (i : ℕ) → Side → ℕ
rows_place i s = i * 48 + side_number s * 24

unfoldable pub rows_of : (store : List ℕ) (i : ℕ) → Side → List ℕ
rows_of store i s = take 24 (drop (rows_place i s) store)

-- class i has the overloops of the tree t, as a left part and as a right part
abbrev pub Tells : Automaton → (store : List ℕ) (i : ℕ) → Tree → Type 0
Tells A store i t = (s : Side) → rows_of store i s ≡ overloops A (Place.Child s) t

-- the class that a word names, and the growth of closing that it tells for a part on a side
abbrev pub id_of : ℕ → ℕ
id_of w = w % 1024

abbrev pub growth_in : Side → ℕ → ℕ
growth_in Side.Left w = w / 1024 % 1024
growth_in Side.Right w = w / 1048576 % 1024

-- so is a word: it names the class, and has the growth of closing at the tree's root
abbrev pub TellsWord : Automaton → (store : List ℕ) (w : ℕ) → Tree → Type 0
TellsWord A store w t = Tells A store (id_of w) t × ((s : Side) → growth_in s w ≡ own_growth A (Place.Child s) t)

-- the word w is that of a node with the symbol σ over parts of the classes l and r
pub record Node (A : Automaton) (store : List ℕ) (σ l r w : ℕ) : Type 0 where
  pub rows : (s : Side) → rows_of store (id_of w) s ≡ node_overloops A (Place.Child s) σ (rows_of store l Side.Left) (rows_of store r Side.Right)
  pub growth : (s : Side) → growth_in s w ≡ node_growth A (Place.Child s) σ (rows_of store l Side.Left) (rows_of store r Side.Right)

-- as parts on a side of a node with the symbol σ, at any place, classes i and j do the same
abbrev pub Alike : Automaton → (store : List ℕ) (σ : ℕ) → Side → (i j : ℕ) → Type 0
Alike A store σ s i j =
    (τ : Place) → composed (moves A σ τ (Move.Down s)) (rows_of store i s) ≡ composed (moves A σ τ (Move.Down s)) (rows_of store j s)

-- the first n classes of a store are those of another
abbrev pub Same : (n : ℕ) (store store' : List ℕ) → Type 0
Same n store store' = (i : ℕ) (s : Side) → i < n → rows_of store' i s ≡ rows_of store i s

-- class i is one of the first n but the first, and has these relations
pub record IsClass (n : ℕ) (store : List ℕ) (i : ℕ) (left right : List ℕ) : Type 0 where
  pub some : 0 < i
  pub known : i < n
  pub left_rows : rows_of store i Side.Left ≡ left
  pub right_rows : rows_of store i Side.Right ≡ right
