-- What is answered to an automaton's file, a tree's file and two logs. The quotations are of document 02, W8.
-- Interface: `compared_tree`, `compared_by`, `compared_of`, `part_of`, `told_of`.
use Rattle.std.specs.Prelude.{ℕ, List, [], ◌∷◌, Result, Ok, Err}
use Rattle.model.specs.Trees.{Tree}
use Rattle.algorithms.specs.Automaton.{Automaton}
use Rattle.blocks.specs.Blocks.{content}
use Rattle.automaton.specs.File.{read_automaton}
use Rattle.transitions.specs.Transitions.{automaton_of}
use Rattle.nodes.specs.Nodes.{tree_of}
use Rattle.tree.specs.File.{nodes_of, read_tree}
use Rattle.membership.specs.Judged.{signature_of}
use Rattle.agreement.specs.Common.{common_part}
use Rattle.logs.specs.Prefix.{entries_of, run_prefix}
use Rattle.logs.specs.Checks.{logs_check}
use Rattle.logs.specs.declared.Compared.{Compared}
use Rattle.refusal.specs.Checks.{Check}
use Rattle.refusal.specs.declared.Refusal.{Refusal}

abbrev pub count_if : Check → (m n : ℕ) → Result Compared Refusal
count_if (Err r) m n = Err r
count_if (Ok _) m n = Ok (record { first = m; second = n })

-- on a tree: "tell for each log how many entries from its start are a lawful walk"
unfoldable pub compared_tree : Automaton → Tree → (a b : List ℕ) → Result Compared Refusal
compared_tree A t a b = count_if (logs_check a b) (run_prefix A t (entries_of a)) (run_prefix A t (entries_of b))

-- on a tree's file s that was read
abbrev pub compared_read : Automaton → Result ℕ Refusal → (s a b : List ℕ) → Result Compared Refusal
compared_read A (Err r) s a b = Err r
compared_read A (Ok k) s a b = compared_tree A (tree_of A.branches (nodes_of k (content s))) a b

-- on any tree's file
unfoldable pub compared_by : Automaton → (s a b : List ℕ) → Result Compared Refusal
compared_by A s a b = compared_read A (read_tree (signature_of A) s) s a b

-- "after walker and letter": of an automaton's file w, a tree's file s and the logs a and b
unfoldable pub compared_of : (w s a b : List ℕ) → Result Compared Refusal
compared_of w s a b = read_automaton w Err (λ h contents. compared_by (automaton_of h contents) s a b)

-- what is handed back: "A refusal comes with an empty part" ..
abbrev pub part_of : Result Compared Refusal → (a b : List ℕ) → List ℕ
part_of (Ok c) a b = common_part a b
part_of (Err r) a b = []

-- .. "and both numbers 0": what is told is a refusal's number, file and place, and the two counts
abbrev pub told_of : Result Compared Refusal → List ℕ
told_of (Ok c) = 0 ∷ 0 ∷ 0 ∷ c.first ∷ c.second ∷ []
told_of (Err r) = r.number ∷ r.file ∷ r.place ∷ 0 ∷ 0 ∷ []
