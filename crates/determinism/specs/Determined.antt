-- Whether transitions are deterministic (the paper's Definition 19), computed: what single is read from (`Determinism.single-determined`).
-- Interface: `each`, `choices`, `one_choice`, `one_each`, `one_places`, `one_symbols`, `determined`.
use Rattle.std.specs.Prelude.{ℕ, zero, suc, ◌+◌, Bool, true, ◌&&◌, leb}
use Rattle.std.specs.Int.Count.{ones}
use Rattle.model.specs.declared.Side.{Side}
use Rattle.model.specs.declared.Place.{Place}
use Rattle.model.specs.declared.Move.{Move}
use Rattle.algorithms.specs.Automaton.{Automaton}
use Rattle.transitions.specs.Compiled.{Next}

-- a test holds of each of the first n numbers
unfoldable pub each : (ℕ → Bool) → (n : ℕ) → Bool
each test zero = true
each test (suc n) = each test n && test n

module _ (next : Next) where
  -- how many moves and next states a symbol, a place and a state have: the next states of each move, counted
  abbrev pub choices : (σ : ℕ) → Place → (p : ℕ) → ℕ
  choices σ τ p =
      ones (next σ τ Move.Stay p) + ones (next σ τ Move.Up p) + ones (next σ τ (Move.Down Side.Left) p) + ones (next σ τ (Move.Down Side.Right) p)

  -- at most one
  unfoldable pub one_choice : (σ : ℕ) → Place → (p : ℕ) → Bool
  one_choice σ τ p = leb (choices σ τ p) 1

  -- .. for each of n states
  abbrev pub one_each : (σ : ℕ) → Place → (n : ℕ) → Bool
  one_each σ τ = each (one_choice σ τ)

  -- .. at each place
  unfoldable pub one_places : (n σ : ℕ) → Bool
  one_places n σ = one_each σ Place.Root n && one_each σ (Place.Child Side.Left) n && one_each σ (Place.Child Side.Right) n

  -- .. and for each of m symbols
  abbrev pub one_symbols : (n m : ℕ) → Bool
  one_symbols n = each (one_places n)

abbrev pub determined : Automaton → Bool
determined A = one_symbols A.next A.states A.symbols
