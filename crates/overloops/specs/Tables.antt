-- What lent tables hold of an automaton: the compiled transitions, and the overloops of the leaves, 24 rows for each symbol and side.
-- Interface: `Tabled`, `side_number`, `leaf_cell`, `Leaves`, `PutFirst`, `Put`.
use Rattle.std.specs.Prelude.{ℕ, ◌+◌, ◌*◌, ◌<◌, ◌≤◌, ◌≡◌, ◌⊎◌, List, length, get_or}
use Rattle.model.specs.declared.Side.{Side}
use Rattle.model.specs.declared.Place.{Place}
use Rattle.algorithms.specs.Automaton.{Automaton, Proper}
use Rattle.algorithms.specs.Overloops.{leaf_overloops}
use Rattle.transitions.specs.Compiled.{Compiled}

-- the table is that of an automaton with n states
pub record Tabled (A : Automaton) (n : ℕ) (table : List ℕ) : Type 0 where
  pub compiled : Compiled A table
  pub states : A.states ≡ n
  pub proper : Proper A

abbrev pub side_number : Side → ℕ
side_number Side.Left = 0
side_number Side.Right = 1

-- where the rows of a symbol and a side begin
abbrev pub leaf_cell : ℕ → Side → ℕ
leaf_cell σ s = (σ * 2 + side_number s) * 24

-- row p of a symbol and a side, for each of the first n symbols, is that of the leaf's overloops there
pub record LeavesBelow (n : ℕ) (A : Automaton) (leaves : List ℕ) : Type 0 where
  pub size : length leaves ≡ 1536
  pub rows : (σ : ℕ) (s : Side) (p : ℕ) → σ < n → p < 24
      → get_or leaves (leaf_cell σ s + p) 0 ≡ get_or (leaf_overloops A (Place.Child s) σ) p 0

abbrev pub Leaves : Automaton → List ℕ → Type 0
Leaves = LeavesBelow 32

-- t' is t with the first k of some rows from `at` on
pub record PutFirst (k at : ℕ) (rows t t' : List ℕ) : Type 0 where
  pub size : length t' ≡ length t
  pub inside : (p : ℕ) → p < k → get_or t' (at + p) 0 ≡ get_or rows p 0
  pub outside : (i : ℕ) → (i < at) ⊎ (at + k ≤ i) → get_or t' i 0 ≡ get_or t i 0

-- t' is t with 24 rows from `at` on
abbrev pub Put : ℕ → (rows t t' : List ℕ) → Type 0
Put = PutFirst 24
