-- How the words of states grow: R has for each node the states that are reached there, and F those of them that are fresh.
-- Interface: `Image`, `weight`, `Grown`, `Spread`, `Here`, `Sent`, `Either`.
use Rattle.std.specs.Prelude.{ℕ, ◌+◌, ◌-◌, ◌*◌, ◌^◌, ◌≤◌, ◌<◌, ◌≡◌, ◌⊎◌, true, List, [], ◌∷◌, get_or}
use Rattle.model.specs.declared.Move.{Move}
use Rattle.algorithms.specs.Automaton.{In}
use Rattle.steps.specs.Choices.{Makes}
use Rattle.steps.specs.Successors.{goes}
use Rattle.steps.specs.Leads.{arrives}

-- x has the numbers in the rows, from row `at` of the table on, of the states of a set, of which there are 24
pub record Image (table : List ℕ) (at set x : ℕ) : Type 0 where
  pub from : (q : ℕ) → In x q → (p : ℕ) × (p < 24) × In set p × In (get_or table (at + p) 0) q
  pub into : (p q : ℕ) → p < 24 → In set p → In (get_or table (at + p) 0) q → In x q

-- what falls as states are added and taken: twice what each reached word lacks, and the fresh word
unfoldable pub weight : (R F : List ℕ) → ℕ
weight [] F = 0
weight (r ∷ R) [] = 0
weight (r ∷ R) (f ∷ F) = (2 ^ 32 - r) * 2 + f + weight R F

-- states are added, and each that is new is fresh
pub record Grown (R F R' F' : List ℕ) : Type 0 where
  pub more : (i q : ℕ) → In (get_or R i 0) q → In (get_or R' i 0) q
  pub kept : (i q : ℕ) → In (get_or F i 0) q → In (get_or F' i 0) q
  pub new : (i q : ℕ) → In (get_or R' i 0) q → In (get_or R i 0) q ⊎ In (get_or F' i 0) q
  pub inside : (i q : ℕ) → In (get_or F' i 0) q → In (get_or F i 0) q ⊎ In (get_or R' i 0) q
  pub falls : weight R' F' ≤ weight R F

-- those added are the states q at the nodes j, below n, for which S holds
pub record Spread (n : ℕ) (S : (j q : ℕ) → Type 0) (R F R' F' : List ℕ) : Type 0 where
  pub grown : Grown R F R' F'
  pub all : (j q : ℕ) → j < n → S j q → In (get_or R' j 0) q
  pub only : (j q : ℕ) → In (get_or R' j 0) q → In (get_or R j 0) q ⊎ ((j < n) × S j q)

-- at a node, the states of a set
abbrev pub Here : (node set j q : ℕ) → Type 0
Here i x j q = (j ≡ i) × In x q

-- at the node where a move leads from node i, the states of a set
abbrev pub Sent : (parents rights : List ℕ) (i : ℕ) → Move → (set j q : ℕ) → Type 0
Sent P Q i μ x j q = (arrives (goes P Q i (Makes μ q)) j ≡ true) × In x q

abbrev pub Either : (S T : (j q : ℕ) → Type 0) → (j q : ℕ) → Type 0
Either S T j q = S j q ⊎ T j q
