-- The files of document 01's board.
-- Interface: `walker`, `letter`, `file_a`, `file_a+`, `file_i`, `file_j`.
use Rattle.std.specs.Prelude.{ℕ, List, [], ◌∷◌, ◌++◌}
use Rattle.blocks.specs.FileOf.{file_of}
use Rattle.automaton.specs.Payload.{payload_of}
use Rattle.tree.specs.Payload.{payload_of as nodes_payload}

-- the counts, the sets (bit i stands for number i), and then the bytes of the rules
unfoldable pub walker : (states symbols rules start final branch : ℕ) → List ℕ → List ℕ
walker states symbols rules start final branch bytes =
    file_of (payload_of (record { states = states; symbols = symbols; rules = rules; initial = start; accepting = final; branches = branch }) bytes)

-- the four rules of A
unfoldable pub rules_a : List ℕ
rules_a = 2 ∷ 0 ∷ 0 ∷ 3 ∷ 0 ∷ 2 ∷ 0 ∷ 2 ∷ 3 ∷ 0 ∷ 1 ∷ 0 ∷ 2 ∷ 1 ∷ 1 ∷ 2 ∷ 1 ∷ 2 ∷ 1 ∷ 1 ∷ []

-- A: n = 2, m = 3, start {0}, final {1}, branch {2}; and A+, which adds the rule 1 0 0 0 1
unfoldable pub file_a : List ℕ
file_a = walker 2 3 4 1 2 4 rules_a

unfoldable pub file_a+ : List ℕ
file_a+ = walker 2 3 5 1 2 4 (rules_a ++ (1 ∷ 0 ∷ 0 ∷ 0 ∷ 1 ∷ []))

-- (i) one leaf symbol, no rules, start {0}, final empty
unfoldable pub file_i : List ℕ
file_i = walker 1 1 0 1 0 0 []

-- (j) one branch symbol, no leaf, start and final {0}
unfoldable pub file_j : List ℕ
file_j = walker 1 1 0 1 1 1 []

-- the letter with a list of symbols
unfoldable pub letter : List ℕ → List ℕ
letter symbols = file_of (nodes_payload symbols)
