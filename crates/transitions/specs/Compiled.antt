-- The compiled transitions: a set of next states for each of 32 symbols, 3 places, 4 moves and 24 states.
-- Interface: `cell_of`, `Next`, `next_in`, `RuleFits`, `Stepped`, `Added`, `Compiled`, `Loaded`.
use Rattle.std.specs.Prelude.{ℕ, ◌+◌, ◌*◌, ◌<◌, ◌≡◌, List, length, get_or, eqb, Option, Result, Ok, Err}
use Rattle.model.specs.declared.Place.{Place}
use Rattle.model.specs.declared.Move.{Move}
use Rattle.blocks.specs.Blocks.{content}
use Rattle.automaton.specs.Payload.{move_byte}
use Rattle.automaton.specs.declared.Rule.{Rule}
use Rattle.algorithms.specs.Automaton.{Automaton}
use Rattle.transitions.specs.Transitions.{place_number, fits, with_if, added_by, automaton_of}
use Rattle.automaton.specs.declared.Header.{Header}
use Rattle.refusal.specs.declared.Refusal.{Refusal}

-- the cell of a symbol, a place, a move and a state
abbrev pub cell_of : ℕ → Place → Move → ℕ → ℕ
cell_of σ τ μ p = ((σ * 3 + place_number τ) * 4 + move_byte μ) * 24 + p

-- the set of next states for each symbol, place, move and state
abbrev pub Next : Type 0
Next = (symbol : ℕ) → Place → Move → (state : ℕ) → ℕ

-- what the cells of a table hold
abbrev pub next_in : List ℕ → Next
next_in t σ τ μ p = get_or t (cell_of σ τ μ p) 0

-- a rule's numbers are within the table
pub record RuleFits (r : Rule) : Type 0 where
  pub symbol : r.symbol.0 < 32
  pub state : r.state.0 < 24
  pub next : r.next.0 < 24

-- each cell of t' is what f makes of that cell of t
pub record Cells (f : ℕ → Place → Move → ℕ → ℕ → ℕ) (t t' : List ℕ) : Type 0 where
  pub size : length t' ≡ length t
  pub cells : (σ : ℕ) (τ : Place) (μ : Move) (p : ℕ) → σ < 32 → p < 24 → get_or t' (cell_of σ τ μ p) 0 ≡ f σ τ μ p (get_or t (cell_of σ τ μ p) 0)

-- t' is t with a rule's transition at one place
abbrev pub Stepped : Rule → Place → List ℕ → List ℕ → Type 0
Stepped r π = Cells (λ σ τ μ p set. with_if (fits r (eqb (place_number π) (place_number τ)) σ μ p) r.next.0 set)

-- t' is t with a rule's transitions
abbrev pub Added : Option Rule → List ℕ → List ℕ → Type 0
Added bytes = Cells (added_by bytes)

-- each of the 9,216 cells is the set of next states
pub record Tabulates (next : Next) (t : List ℕ) : Type 0 where
  pub size : length t ≡ 9216
  pub cells : (σ : ℕ) (τ : Place) (μ : Move) (p : ℕ) → σ < 32 → p < 24 → next_in t σ τ μ p ≡ next σ τ μ p

-- the table of an automaton
abbrev pub Compiled : Automaton → List ℕ → Type 0
Compiled A = Tabulates A.next

-- what loading a file leaves in the lent table: the automaton's, or, of a refused file, what stood there
abbrev pub Loaded : Result Header Refusal → (file before after : List ℕ) → Type 0
Loaded (Ok h) s before after = Compiled (automaton_of h (content s)) after
Loaded (Err r) s before after = after ≡ before
