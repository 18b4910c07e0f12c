-- Two logs held together, as one table: the readings of document 02, W8. proofs/Examples computes each.
-- Interface: `Example`, `examples`, `told_by`, `shown`.
use Rattle.std.specs.Prelude.{ℕ, List, [], ◌∷◌}
use Rattle.model.specs.Trees.{Tree, leaf, node}
use Rattle.algorithms.specs.Automaton.{Automaton}
use Rattle.watch.specs.Examples.{Five, five, next_by}
use Rattle.agreement.specs.Common.{common_entries}
use Rattle.logs.specs.Prefix.{entries_of, run_prefix}

-- two logs; how many entries they have in common, and how many of each are a run
pub record Example : Type 0 where
  pub first : List ℕ
  pub second : List ℕ
  pub common : ℕ
  pub first_run : ℕ
  pub second_run : ℕ

-- not single: at the root in state 0 it stays, into state 1, or goes into the left part; in state 1 it goes into the right part; a leaf sends it back
-- up in state 1. It starts in state 0 or 2, and is final in state 1
abbrev rules : List Five
rules = five 2 0 0 0 1 ∷ five 2 0 0 2 0 ∷ five 2 1 0 3 0 ∷ five 0 0 1 1 1 ∷ five 1 0 2 1 1 ∷ []

abbrev pub automaton : Automaton
automaton = record { states = 3; symbols = 3; initial = 5; accepting = 2; branches = 4; next = next_by rules }

abbrev pub tree : Tree
tree = node 2 (leaf 0) (leaf 1)

abbrev run_of : List ℕ → ℕ
run_of log = run_prefix automaton tree (entries_of log)

abbrev pub told_by : Example → List ℕ
told_by x = common_entries x.first x.second ∷ run_of x.first ∷ run_of x.second ∷ []

abbrev pub shown : Example → List ℕ
shown x = x.common ∷ x.first_run ∷ x.second_run ∷ []

abbrev example : (first second : List ℕ) → (common first_run second_run : ℕ) → Example
example a b k m n = record { first = a; second = b; common = k; first_run = m; second_run = n }

-- into the left part and back up, to the root in state 1
abbrev left : List ℕ
left = 0 ∷ 0 ∷ 0 ∷ 1 ∷ 0 ∷ 0 ∷ 0 ∷ 0 ∷ 1 ∷ []

-- it passes there, and goes on into the right part and back
abbrev onward : List ℕ
onward = 0 ∷ 0 ∷ 0 ∷ 1 ∷ 0 ∷ 0 ∷ 0 ∷ 0 ∷ 1 ∷ 2 ∷ 0 ∷ 0 ∷ 0 ∷ 0 ∷ 1 ∷ []

unfoldable pub examples : List Example
examples =
    -- empty logs
    example [] [] 0 0 0 ∷
    example [] left 0 0 3 ∷
    -- equal ones, and one that is the beginning of the other; a run passes and goes on
    example left left 3 3 3 ∷
    example left onward 3 3 5 ∷
    -- a stay is a step
    example (0 ∷ 0 ∷ 0 ∷ 0 ∷ 0 ∷ 1 ∷ []) left 1 2 3 ∷
    -- they differ in the low byte, the high byte, the state: the entry that differs is not in the part, and is not reached
    example (0 ∷ 0 ∷ 0 ∷ 2 ∷ 0 ∷ 0 ∷ []) left 1 1 3 ∷
    example (0 ∷ 0 ∷ 0 ∷ 1 ∷ 1 ∷ 0 ∷ []) left 1 1 3 ∷
    example (0 ∷ 0 ∷ 0 ∷ 1 ∷ 0 ∷ 1 ∷ []) left 1 1 3 ∷
    -- a first entry in another start state; in none; not at the root
    example (0 ∷ 0 ∷ 2 ∷ []) left 0 1 3 ∷
    example (0 ∷ 0 ∷ 1 ∷ []) left 0 0 3 ∷
    example (1 ∷ 0 ∷ 0 ∷ []) left 0 0 3 ∷
    -- a node past the tree, a state past the automaton's; what follows is not counted, though a step leads to it
    example (0 ∷ 0 ∷ 0 ∷ 3 ∷ 0 ∷ 0 ∷ []) left 1 1 3 ∷
    example (0 ∷ 0 ∷ 0 ∷ 0 ∷ 0 ∷ 3 ∷ []) left 1 1 3 ∷
    example (0 ∷ 0 ∷ 1 ∷ 2 ∷ 0 ∷ 0 ∷ 0 ∷ 0 ∷ 1 ∷ []) left 0 0 3 ∷
    -- where both are unlawful, they agree all the same
    example (9 ∷ 9 ∷ 9 ∷ 8 ∷ 8 ∷ 8 ∷ []) (9 ∷ 9 ∷ 9 ∷ 8 ∷ 8 ∷ 7 ∷ []) 1 0 0 ∷
    []
