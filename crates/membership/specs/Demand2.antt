-- Demand 2, of an answer to an automaton's file and a tree's file. Definitions only: runs, and nothing of tables.
-- Interface: `Demand2`.
use Rattle.std.specs.Prelude.{◌≡◌, ◌↔◌, List, ℕ, Result, Ok, Err}
use Rattle.model.specs.Trees.{Tree}
use Rattle.algorithms.specs.Automaton.{Automaton, Accepted}
use Rattle.blocks.specs.Blocks.{content}
use Rattle.refusal.specs.declared.Refusal.{Refusal}
use Rattle.automaton.specs.File.{parsed}
use Rattle.automaton.specs.declared.Header.{Header}
use Rattle.transitions.specs.Transitions.{automaton_of}
use Rattle.tree.specs.File.{nodes_of, read_tree}
use Rattle.nodes.specs.Preorder.{Writes}
use Rattle.membership.specs.Judged.{signature_of}
use Rattle.membership.specs.declared.Answer.{Answer}

-- of an automaton that was read, and the node list of a tree's file that was read against its signature
pub record Judges (A : Automaton) (nodes : List ℕ) (r : Result Answer Refusal) : Type 0 where
  -- "From 4, one symbol a node, in preorder" (document 01): the list writes a tree, and no other
  pub tree : Tree
  pub writes : Writes (signature_of A) nodes tree
  pub one : (t : Tree) → Writes (signature_of A) nodes t → t ≡ tree
  -- it "is accepted exactly when, by the steps of the published definition, some run of any length, zero steps counted, leads from the root in
  -- a start state to the root in a final state" (`Accepted` is `Accepts` of the model, over the transitions that the file's rules allow) ..
  pub accepted : (r ≡ Ok Answer.Accepted) ↔ Accepted A tree
  pub other : (r ≡ Ok Answer.Other) ↔ (¬ Accepted A tree)
  -- .. and is not refused
  pub no_refusal : (x : Refusal) → ¬ (r ≡ Err x)

-- "A letter read without refusal": the automaton's file w reads, and the tree's file s against it, with k nodes
abbrev pub Demand2 : (w s : List ℕ) → Result Answer Refusal → Type 0
Demand2 w s r =
    (h : Header) (k : ℕ) → parsed w ≡ Ok h
    → let A = automaton_of h (content w) in read_tree (signature_of A) s ≡ Ok k → Judges A (nodes_of k (content s)) r
