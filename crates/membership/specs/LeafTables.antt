-- What lent tables hold of the leaves of an automaton: the overloops of each leaf symbol on each side, and the growth of closing there.
-- Interface: `growth_place`, `LeafParts`.
use Rattle.std.specs.Prelude.{ℕ, ◌+◌, ◌*◌, ◌<◌, ◌≡◌, false, List, length, get_or}
use Rattle.relation.specs.Sets.{member}
use Rattle.model.specs.declared.Side.{Side}
use Rattle.model.specs.declared.Place.{Place}
use Rattle.algorithms.specs.Automaton.{Automaton}
use Rattle.algorithms.specs.Overloops.{leaf_overloops}
use Rattle.algorithms.specs.Growth.{leaf_growth}
use Rattle.overloops.specs.Tables.{side_number, leaf_cell}

-- where the growth of a symbol on a side stands
abbrev pub growth_place : ℕ → Side → ℕ
growth_place σ s = σ * 2 + side_number s

-- of each of the first n symbols that is a leaf symbol
pub record LeafParts (n branches : ℕ) (A : Automaton) (leaves growths : List ℕ) : Type 0 where
  pub size : length leaves ≡ 1536
  pub count : length growths ≡ 64
  pub rows : (σ : ℕ) (s : Side) (p : ℕ) → σ < n → member branches σ ≡ false → p < 24
      → get_or leaves (leaf_cell σ s + p) 0 ≡ get_or (leaf_overloops A (Place.Child s) σ) p 0
  pub growth : (σ : ℕ) (s : Side) → σ < n → member branches σ ≡ false → get_or growths (growth_place σ s) 0 ≡ leaf_growth A (Place.Child s) σ
