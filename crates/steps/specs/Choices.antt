-- The transition that an automaton makes at a symbol, a place and a state; and a table of them, a byte each.
-- Interface: `Choice`, `first_of`, `choice`, `code_of`, `decoded`, `choice_cell`, `code_at`, `Chosen`.
use Rattle.std.specs.Prelude.{ℕ, zero, suc, ◌+◌, ◌-◌, ◌*◌, ◌/◌, ◌%◌, ◌<◌, ◌≡◌, Bool, true, false, List, ltb, get_or}
use Rattle.relation.specs.Lowest.{lowest_of}
use Rattle.model.specs.declared.Side.{Side}
use Rattle.model.specs.declared.Place.{Place}
use Rattle.model.specs.declared.Move.{Move}
use Rattle.automaton.specs.Payload.{move_byte}
use Rattle.transitions.specs.Transitions.{place_number}
use Rattle.transitions.specs.Compiled.{Next}

-- a move into a next state, or none
pub data Choice : Type 0 where
  Makes : Move → (next : ℕ) → Choice
  Halts : Choice

-- the move, where it has a next state, and then the lowest; else what comes later
abbrev pub or_else : (set : ℕ) → Move → (later : Choice) → Choice
or_else zero μ later = later
or_else (suc x) μ later = Makes μ (lowest_of (suc x))

-- the first move that has one: stay, up, left, right
unfoldable pub first_of : (sets : Move → ℕ) → Choice
first_of sets =
    or_else (sets Move.Stay) Move.Stay
    (or_else (sets Move.Up) Move.Up
    (or_else (sets (Move.Down Side.Left)) (Move.Down Side.Left) (or_else (sets (Move.Down Side.Right)) (Move.Down Side.Right) Halts)))

-- of an automaton's transitions; where they are deterministic there is no other (`Stepping.only-choice`)
abbrev pub choice : Next → (symbol : ℕ) → Place → (state : ℕ) → Choice
choice next σ τ p = first_of (λ μ. next σ τ μ p)

-- ---- a table: a byte for each of 32 symbols, 3 places and 24 states

-- the move's byte, 32 times, and the state
abbrev pub code_of : Choice → ℕ
code_of (Makes μ q) = move_byte μ * 32 + q
code_of Halts = 255

abbrev pub either : {A : Type 0} → Bool → A → A → A
either true x y = x
either false x y = y

unfoldable pub decoded : ℕ → Choice
decoded c =
    either (ltb c 32) (Makes Move.Stay c)
    (either (ltb c 64) (Makes Move.Up (c - 32))
    (either (ltb c 96) (Makes (Move.Down Side.Left) (c - 64)) (either (ltb c 128) (Makes (Move.Down Side.Right) (c - 96)) Halts)))

abbrev pub choice_cell : (symbol : ℕ) → Place → (state : ℕ) → ℕ
choice_cell σ τ p = (σ * 3 + place_number τ) * 24 + p

-- what the compiled transitions have for a cell
unfoldable pub code_at : (transitions : List ℕ) → (cell : ℕ) → ℕ
code_at t c = code_of (first_of (λ μ. get_or t ((c / 24 * 4 + move_byte μ) * 24 + c % 24) 0))

-- the cells of the first m symbols have the choices
pub record Chosen (m : ℕ) (next : Next) (codes : List ℕ) : Type 0 where
  pub codes_are : (σ : ℕ) (τ : Place) (p : ℕ) → σ < m → p < 24 → decoded (get_or codes (choice_cell σ τ p) 0) ≡ choice next σ τ p
