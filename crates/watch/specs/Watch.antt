-- What is answered to an automaton's file, a tree's file, a budget and a lent log, and what is left in the log. The quotations are of document
-- 02, W7.
-- Interface: `Outcome`, `log_after`, `watch_tree`, `watch_by`, `watch_of`.
use Rattle.std.specs.Prelude.{ℕ, ◌*◌, Bool, List, ◌++◌, length, drop, Result, Ok, Err}
use Rattle.relation.specs.Lowest.{lowest_of}
use Rattle.model.specs.Trees.{Tree}
use Rattle.algorithms.specs.Automaton.{Automaton}
use Rattle.blocks.specs.Blocks.{content}
use Rattle.automaton.specs.File.{read_automaton}
use Rattle.transitions.specs.Spread.{spread_rules}
use Rattle.transitions.specs.Transitions.{automaton_of}
use Rattle.determinism.specs.Single.{single}
use Rattle.nodes.specs.Nodes.{tree_of}
use Rattle.tree.specs.File.{nodes_of, read_tree}
use Rattle.membership.specs.Judged.{signature_of}
use Rattle.watch.specs.Walk.{Entry, Walk, walk, bytes_of}
use Rattle.watch.specs.Checks.{watch_check}
use Rattle.watch.specs.declared.Watched.{Watched}
use Rattle.refusal.specs.Checks.{Check}
use Rattle.refusal.specs.declared.Refusal.{Refusal}

-- an answer, and the lent log afterwards
pub record Outcome : Type 0 where
  pub answer : Result Watched Refusal
  pub log : List ℕ

abbrev pub outcome : Result Watched Refusal → List ℕ → Outcome
outcome answer log = record { answer = answer; log = log }

-- "bytes after the log are unchanged"
abbrev pub log_after : List Entry → (log : List ℕ) → List ℕ
log_after es log = bytes_of es ++ drop (3 * length es) log

-- "a refused call leaves every lent byte as it was" (W1)
abbrev pub watch_if : Check → Walk → (log : List ℕ) → Outcome
watch_if (Err r) w log = outcome (Err r) log
watch_if (Ok _) w log = outcome (Ok w.answer) (log_after w.entries log)

-- on a tree, from the start state, where there is one
unfoldable pub watch_tree : (single : Bool) → Automaton → Tree → (budget : ℕ) → (log : List ℕ) → Outcome
watch_tree single A t budget log = watch_if (watch_check single A budget (length log)) (walk A t (lowest_of A.initial) budget) log

-- on a tree's file s that was read
abbrev pub watch_read : (single : Bool) → Automaton → Result ℕ Refusal → (s : List ℕ) → (budget : ℕ) → (log : List ℕ) → Outcome
watch_read single A (Err r) s budget log = outcome (Err r) log
watch_read single A (Ok k) s budget log = watch_tree single A (tree_of A.branches (nodes_of k (content s))) budget log

-- on any tree's file
unfoldable pub watch_by : (single : Bool) → Automaton → (s : List ℕ) → (budget : ℕ) → (log : List ℕ) → Outcome
watch_by single A s budget log = watch_read single A (read_tree (signature_of A) s) s budget log

-- "after walker and letter": of an automaton's file w and a tree's file s
unfoldable pub watch_of : (w s : List ℕ) → (budget : ℕ) → (log : List ℕ) → Outcome
watch_of w s budget log =
    read_automaton w (λ r. outcome (Err r) log)
    (λ h contents. watch_by (single (spread_rules h contents)) (automaton_of h contents) s budget log)
