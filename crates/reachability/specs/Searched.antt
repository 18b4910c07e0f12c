-- One turn of the search, the node that it takes, and what holds between two turns.
-- Interface: `Swept`, `Taken`, `Turned`, `Searched`.
use Rattle.std.specs.Prelude.{ℕ, ◌≤◌, ◌<◌, ◌≡◌, ◌⊎◌, true, List, length, get_or, Option, Some, None}
use Rattle.algorithms.specs.Automaton.{In}
use Rattle.reachability.specs.declared.Popped.{Popped}
use Rattle.transitions.specs.Compiled.{Next}
use Rattle.steps.specs.Leads.{leads_in}
use Rattle.reachability.specs.Reached.{Reached}
use Rattle.reachability.specs.Growth.{weight}

-- a node below n with fresh states; none where no node below n has one
abbrev pub Swept : (F : List ℕ) (n : ℕ) → Option ℕ → Type 0
Swept F n (Some node) = (node < n) × (0 < get_or F node 0)
Swept F n None = (i : ℕ) → i < n → get_or F i 0 ≡ 0

-- the same with how many nodes are left on a stack of so many places
abbrev pub Taken : (F : List ℕ) (n room : ℕ) → Option Popped → Type 0
Taken F n room (Some popped) = (popped.height ≤ room) × Swept F n (Some popped.node)
Taken F n room None = Swept F n None

module _ (next : Next) (nodes parents rights : List ℕ) where
  -- the steps from the fresh states of a node are taken
  pub record Turned (node : ℕ) (R F R' F' : List ℕ) : Type 0 where
    pub more : (i q : ℕ) → In (get_or R i 0) q → In (get_or R' i 0) q
    pub kept : (i q : ℕ) → (i ≡ node → ⊥) → In (get_or F i 0) q → In (get_or F' i 0) q
    pub new : (i q : ℕ) → In (get_or R' i 0) q → In (get_or R i 0) q ⊎ In (get_or F' i 0) q
    pub inside : (i q : ℕ) → In (get_or F' i 0) q → In (get_or F i 0) q ⊎ In (get_or R' i 0) q
    pub all : (p j q : ℕ) → p < 24 → In (get_or F node 0) p → j < length nodes → leads_in next nodes parents rights node p j q ≡ true → In (get_or R' j 0) q
    pub only : (j q : ℕ) → In (get_or R' j 0) q
        → In (get_or R j 0) q ⊎ ((j < length nodes) × ((p : ℕ) × (p < 24) × In (get_or F node 0) p × (leads_in next nodes parents rights node p j q ≡ true)))
    pub falls : 0 < get_or F node 0 → weight R' F' < weight R F

  -- only what is reached is in R; from its states that are not fresh all steps are taken
  pub record Searched (initial : ℕ) (R F : List ℕ) : Type 0 where
    pub sound : (i q : ℕ) → In (get_or R i 0) q → Reached next nodes parents rights initial i q
    pub inside : (i q : ℕ) → In (get_or F i 0) q → In (get_or R i 0) q
    pub closed : (i p j q : ℕ) → In (get_or R i 0) p → (In (get_or F i 0) p → ⊥) → p < 24 → j < length nodes
        → leads_in next nodes parents rights i p j q ≡ true → In (get_or R j 0) q
    pub begun : (q : ℕ) → In initial q → In (get_or R 0 0) q
