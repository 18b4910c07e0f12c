-- The configurations that are reached from the root, by node numbers. `Meaning` has the law that they are those of the model's runs.
-- Interface: `Reached`, `Found`.
use Rattle.std.specs.Prelude.{ℕ, ◌<◌, ◌≡◌, true, List, length}
use Rattle.algorithms.specs.Automaton.{In}
use Rattle.transitions.specs.Compiled.{Next}
use Rattle.steps.specs.Leads.{leads_in}

module _ (next : Next) (nodes parents rights : List ℕ) (initial : ℕ) where
  -- node j in state q: the root in a start state, and where a step leads from such a configuration
  pub data Reached : (j q : ℕ) → Type 0 where
    starts : {q : ℕ} → In initial q → Reached 0 q
    steps : {i p j q : ℕ} → Reached i p → p < 24 → j < length nodes → leads_in next nodes parents rights i p j q ≡ true → Reached j q

  -- the root is reached in a final state
  abbrev pub Found : (accepting : ℕ) → Type 0
  Found accepting = (q : ℕ) × In accepting q × Reached 0 q
