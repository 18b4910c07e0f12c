-- What judging answers of an automaton's file and a tree's file: the first refusal, the automaton's file first, else whether the automaton
-- accepts the tree.
-- Interface: `signature_of`, `accepted_if`, `judged_by`, `judged`.
use Rattle.std.specs.Prelude.{Bool, true, false, List, ℕ, Result, Ok, Err}
use Rattle.model.specs.declared.Signature.{Signature}
use Rattle.algorithms.specs.Automaton.{Automaton}
use Rattle.algorithms.specs.Overloops.{accepts?}
use Rattle.blocks.specs.Blocks.{content}
use Rattle.transitions.specs.Transitions.{by_automaton}
use Rattle.tree.specs.File.{nodes_of, read_tree}
use Rattle.nodes.specs.Nodes.{tree_of}
use Rattle.membership.specs.declared.Answer.{Answer}
use Rattle.refusal.specs.declared.Refusal.{Refusal}

-- the symbols of an automaton, against which a tree is read
abbrev pub signature_of : Automaton → Signature
signature_of A = record { symbols = A.symbols; branches = A.branches }

abbrev pub accepted_if : Bool → Answer
accepted_if true = Answer.Accepted
accepted_if false = Answer.Other

-- of a tree's file s that was read
abbrev pub answer_of : Automaton → Result ℕ Refusal → (s : List ℕ) → Result Answer Refusal
answer_of A (Ok k) s = Ok (accepted_if (accepts? A (tree_of A.branches (nodes_of k (content s)))))
answer_of A (Err r) s = Err r

-- of a tree's file s, by an automaton
unfoldable pub judged_by : Automaton → (s : List ℕ) → Result Answer Refusal
judged_by A s = answer_of A (read_tree (signature_of A) s) s

-- of an automaton's file w and a tree's file s
unfoldable pub judged : (w s : List ℕ) → Result Answer Refusal
judged w s = by_automaton w Err (λ A. judged_by A s)
