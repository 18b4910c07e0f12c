-- Walks as one table: document 01's walker A, and the readings of document 02, W7. proofs/Examples computes each.
-- Interface: `Example`, `examples`, `walked_of`, `shown`.
use Rattle.std.specs.Prelude.{ℕ, ◌^◌, ◌&&◌, List, [], ◌∷◌, eqb}
use Rattle.model.specs.declared.Place.{Place}
use Rattle.model.specs.declared.Move.{Move}
use Rattle.model.specs.Trees.{Tree, leaf, node}
use Rattle.algorithms.specs.Automaton.{Automaton}
use Rattle.automaton.specs.Payload.{move_byte}
use Rattle.transitions.specs.Transitions.{place_number}
use Rattle.steps.specs.Choices.{either}
use Rattle.watch.specs.Walk.{Entry, Walk, walk}
use Rattle.watch.specs.declared.Watched.{Watched}

-- a rule by its five bytes, at one place
pub record Five : Type 0 where
  pub symbol : ℕ
  pub state : ℕ
  pub place : ℕ
  pub step : ℕ
  pub next : ℕ

abbrev pub five : (symbol state place step next : ℕ) → Five
five a b c d e = record { symbol = a; state = b; place = c; step = d; next = e }

-- the next state of the first rule that applies
abbrev pub next_by : List Five → (symbol : ℕ) → Place → Move → (state : ℕ) → ℕ
next_by [] σ τ μ p = 0
next_by (r ∷ rs) σ τ μ p =
    either (eqb r.symbol σ && eqb r.state p && eqb r.place (place_number τ) && eqb r.step (move_byte μ)) (2 ^ r.next) (next_by rs σ τ μ p)

-- an automaton that starts in state 0, a tree, a budget; the answer and the entries
pub record Example : Type 0 where
  pub states : ℕ
  pub accepting : ℕ
  pub rules : List Five
  pub tree : Tree
  pub budget : ℕ
  pub answer : Watched
  pub entries : List Entry

abbrev pub automaton_of : Example → Automaton
automaton_of x = record { states = x.states; symbols = 3; initial = 1; accepting = x.accepting; branches = 4; next = next_by x.rules }

abbrev pub walked_of : Example → Walk
walked_of x = walk (automaton_of x) x.tree 0 x.budget

abbrev pub shown : Example → Walk
shown x = record { answer = x.answer; entries = x.entries }

abbrev example : (states accepting : ℕ) → List Five → Tree → (budget : ℕ) → Watched → List Entry → Example
example n f rules t budget answer entries =
    record { states = n; accepting = f; rules = rules; tree = t; budget = budget; answer = answer; entries = entries }

-- document 01's walker A: down the right side in state 0, and up from a leaf 1 in state 1
abbrev walker_a : List Five
walker_a = five 2 0 0 3 0 ∷ five 2 0 2 3 0 ∷ five 1 0 2 1 1 ∷ five 2 1 2 1 1 ∷ []

-- into the left part and back, for ever
abbrev in_and_out : List Five
in_and_out = five 2 0 0 2 0 ∷ five 0 0 1 1 0 ∷ []

unfoldable pub examples : List Example
examples =
    -- the letter 2 0 1 passes in two steps
    example 2 2 walker_a (node 2 (leaf 0) (leaf 1)) 9 (Watched.Passed 2) ((0, 0) ∷ (2, 0) ∷ (0, 1) ∷ []) ∷
    -- with a budget of just these, too; with one less it is spent
    example 2 2 walker_a (node 2 (leaf 0) (leaf 1)) 2 (Watched.Passed 2) ((0, 0) ∷ (2, 0) ∷ (0, 1) ∷ []) ∷
    example 2 2 walker_a (node 2 (leaf 0) (leaf 1)) 1 (Watched.Spent 1) ((0, 0) ∷ (2, 0) ∷ []) ∷
    -- 2 1 0 is stuck at node 2
    example 2 2 walker_a (node 2 (leaf 1) (leaf 0)) 9 (Watched.Stuck 1) ((0, 0) ∷ (2, 0) ∷ []) ∷
    -- budget 0: Passed, Stuck or Spent
    example 1 1 [] (leaf 0) 0 (Watched.Passed 0) ((0, 0) ∷ []) ∷
    example 1 0 [] (leaf 0) 0 (Watched.Stuck 0) ((0, 0) ∷ []) ∷
    example 2 2 walker_a (node 2 (leaf 0) (leaf 1)) 0 (Watched.Spent 0) ((0, 0) ∷ []) ∷
    -- a start state that is final passes before the first step
    example 1 1 in_and_out (node 2 (leaf 0) (leaf 1)) 9 (Watched.Passed 0) ((0, 0) ∷ []) ∷
    -- three nodes and one state: three steps go round
    example 1 0 in_and_out (node 2 (leaf 0) (leaf 1)) 9 (Watched.Circling 3) ((0, 0) ∷ (1, 0) ∷ (0, 0) ∷ (1, 0) ∷ []) ∷
    -- where nodes × states equals the budget, Circling is told, and with one less Spent
    example 1 0 in_and_out (node 2 (leaf 0) (leaf 1)) 3 (Watched.Circling 3) ((0, 0) ∷ (1, 0) ∷ (0, 0) ∷ (1, 0) ∷ []) ∷
    example 1 0 in_and_out (node 2 (leaf 0) (leaf 1)) 2 (Watched.Spent 2) ((0, 0) ∷ (1, 0) ∷ (0, 0) ∷ []) ∷
    []
