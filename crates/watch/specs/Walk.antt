-- The walk of a single automaton on a tree, from the root in a start state, and its log. The quotations are of document 02, W7.
-- Interface: `Entry`, `Walk`, `passes`, `most_steps`, `in_order`, `walk_from`, `walk`, `bytes_of`.
use Rattle.std.specs.Prelude.{ℕ, zero, suc, ◌+◌, ◌*◌, ◌/◌, ◌%◌, Bool, true, false, ◌&&◌, List, [], ◌∷◌, Option, None, Some, eqb}
use Rattle.relation.specs.Sets.{member}
use Rattle.model.specs.Trees.{Tree, size}
use Rattle.algorithms.specs.Automaton.{Automaton}
use Rattle.steps.specs.Successors.{successor}
use Rattle.steps.specs.declared.Configuration.{Configuration}
use Rattle.watch.specs.declared.Watched.{Watched}

-- a configuration by the number of its node: "log each position as .. node, .. then state"
abbrev pub Entry : Type 0
Entry = ℕ × ℕ

-- the answer, "the steps made are in the answer", and the entries from where the walk stands on
pub record Walk : Type 0 where
  pub answer : Watched
  pub entries : List Entry

-- it ends here, after so many steps
abbrev pub ends : (made i p : ℕ) → (ℕ → Watched) → Walk
ends made i p answer = record { answer = answer made; entries = (i, p) ∷ [] }

-- it goes on
abbrev pub logged : (i p : ℕ) → Walk → Walk
logged i p w = record { answer = w.answer; entries = (i, p) ∷ w.entries }

-- "at the root in a final state"
abbrev pub passes : Automaton → (i p : ℕ) → Bool
passes A i p = eqb i 0 && member A.accepting p

-- "nodes × states"
abbrev pub most_steps : Automaton → Tree → ℕ
most_steps A t = size t * A.states

-- "Before each step, in this order: Passed at the root in a final state; Stuck if no rule applies; Circling if the steps made equal nodes ×
-- states"; else what is left of the budget decides
abbrev pub in_order : (passed : Bool) → Option Configuration → (circled : Bool) → (ended : (ℕ → Watched) → Walk) → (onward : ℕ → ℕ → Walk) → Walk
in_order true next circled ended onward = ended Watched.Passed
in_order false None circled ended onward = ended Watched.Stuck
in_order false (Some c) true ended onward = ended Watched.Circling
in_order false (Some c) false ended onward = onward c.node c.state.0

-- at node i in state p, after `made` steps, with so many of the budget left: "Spent if they equal the budget"
unfoldable pub walk_from : Automaton → Tree → (left made i p : ℕ) → Walk
walk_from A t zero made i p =
    in_order (passes A i p) (successor A t i p) (eqb made (most_steps A t)) (ends made i p) (λ j q. ends made i p Watched.Spent)
walk_from A t (suc left) made i p =
    in_order (passes A i p) (successor A t i p) (eqb made (most_steps A t)) (ends made i p) (λ j q. logged i p (walk_from A t left (made + 1) j q))

-- "the first entry is the root in the start state"
abbrev pub walk : Automaton → Tree → (start budget : ℕ) → Walk
walk A t start budget = walk_from A t budget 0 0 start

-- "three bytes: node, low byte first, then state"
unfoldable pub bytes_of : List Entry → List ℕ
bytes_of [] = []
bytes_of (e ∷ es) = e.0 % 256 ∷ e.0 / 256 ∷ e.1 ∷ bytes_of es
