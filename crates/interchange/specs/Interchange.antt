-- Interchangeable classes: as parts on a side of a node with a symbol they do the same, so that of rows with such classes the first is enough
-- there. And what the tables hold by which they are found.
-- Interface: `part_on`, `Interchangeable`, `Doubled`, `LeadsInto`, `word_place`, `Words`, `EntersAt`, `Enters`, `SameOutside`, `MarkedAt`,
-- `Marked`.
use Rattle.std.specs.Prelude.{◌≡◌, List, ℕ, ◌+◌, ◌*◌, ◌<◌, get_or}
use Rattle.relation.specs.Bit.{bit}
use Rattle.relation.specs.Rows.{has, composed}
use Rattle.model.specs.declared.Side.{Side}
use Rattle.model.specs.declared.Place.{Place}
use Rattle.model.specs.declared.Move.{Move}
use Rattle.algorithms.specs.Automaton.{Automaton}
use Rattle.algorithms.specs.Overloops.{moves}
use Rattle.algorithms.specs.Saturate.{Parts}
use Rattle.overloops.specs.Tables.{side_number}

-- the overloops of a class as a part on a side
abbrev pub part_on : Side → Parts → List ℕ
part_on Side.Left x = x.left
part_on Side.Right x = x.right

-- as parts on a side of a node with the symbol σ, at any place, two classes do the same
abbrev pub Interchangeable : Automaton → (σ : ℕ) → Side → (x y : Parts) → Type 0
Interchangeable A σ s x y =
    (τ : Place) → composed (moves A σ τ (Move.Down s)) (part_on s x) ≡ composed (moves A σ τ (Move.Down s)) (part_on s y)

-- of some rows' classes, that of row i is interchangeable with an earlier row's
abbrev pub Doubled : Automaton → (σ : ℕ) → Side → (class : ℕ → Parts) (i : ℕ) → Type 0
Doubled A σ s class i = (j : ℕ) × (j < i) × Interchangeable A σ s (class j) (class i)

-- every pair of a relation leads into a set
abbrev pub LeadsInto : (rows : List ℕ) (set : ℕ) → Type 0
LeadsInto rows set = (p q : ℕ) → has rows p q → bit set q ≡ 1

-- where the word of a symbol and a side, or of a row and a side, stands
abbrev pub word_place : (i : ℕ) → Side → ℕ
word_place i s = i * 2 + side_number s

-- of a table with a word for each number and side: each word of the first n is as P says
abbrev pub Words : (P : ℕ → Side → ℕ → Type 0) (n : ℕ) (t : List ℕ) → Type 0
Words P n t = (i : ℕ) (s : Side) → i < n → P i s (get_or t (word_place i s) 0)

-- a set has the states that a step down to a side of a node with the symbol σ enters, at any place
abbrev pub EntersAt : Automaton → (σ : ℕ) → Side → (set : ℕ) → Type 0
EntersAt A σ s set = (τ : Place) → LeadsInto (moves A σ τ (Move.Down s)) set

-- the table has these sets for the first n symbols
abbrev pub Enters : Automaton → (n : ℕ) (entered : List ℕ) → Type 0
Enters A = Words (EntersAt A)

-- the rows of two relations are the same but at the states of a set
abbrev pub SameOutside : (set : ℕ) (xs ys : List ℕ) → Type 0
SameOutside set xs ys = (p : ℕ) → bit set p ≡ 0 → get_or xs p 0 ≡ get_or ys p 0

-- at each symbol of a set row i is interchangeable, on a side, with an earlier one
abbrev pub MarkedAt : Automaton → (class : ℕ → Parts) (i : ℕ) → Side → (symbols : ℕ) → Type 0
MarkedAt A class i s symbols = (σ : ℕ) → bit symbols σ ≡ 1 → Doubled A σ s class i

-- the table has such sets for the first n rows
abbrev pub Marked : Automaton → (class : ℕ → Parts) (n : ℕ) (doubles : List ℕ) → Type 0
Marked A class = Words (MarkedAt A class)
