-- The answer from the parts: of a node list, of a tree's file, of both files.
-- Assumes nothing.
use Rattle.std.proofs.Common.{Ok, Err, Result}
use Prim.Native.Nat.{ℕ, ◌%◌}
use native.Mathlib.Omega.{arith}
use mathlib.Core.Path.{◌≡◌, sym, ap, ◌∙◌}
use mathlib.Core.List.{List, ◌++◌}
use lib.ListN.{length, drop}
use borrow.Author.Tests.{eq-eqb}
use Rattle.model.specs.Trees.{Tree, size}
use Rattle.algorithms.specs.Automaton.{Automaton}
use Rattle.blocks.specs.Blocks.{content}
use Rattle.refusal.specs.declared.Refusal.{Refusal}
use Rattle.automaton.specs.File.{parsed}
use Rattle.automaton.specs.declared.Header.{Header}
use Rattle.transitions.specs.Transitions.{automaton_of}
use Rattle.nodes.specs.Nodes.{tree_of}
use Rattle.links.specs.Links.{parents_of, rights_of}
use Rattle.links.proofs.Tabling.{tables-are}
use Rattle.tree.specs.File.{nodes_of, read_tree}
use Rattle.overloops.specs.Ready.{Headed}
use Rattle.nodes.proofs.Signatures.{below_at}
use Rattle.watch.specs.Following.{Held}
use Rattle.watch.proofs.Holding.{nodes-long, few_nodes, symbols-low, symbols-below}
use Rattle.watch.proofs.Telling.{signature, signature-is}
use Rattle.logs.specs.Prefix.{entries_of, run_prefix}
use Rattle.logs.specs.Checks.{logs_check}
use Rattle.logs.specs.Compare.{compared_tree, compared_by, compared_of}
use Rattle.logs.specs.Counting.{Countable}
use Rattle.logs.specs.declared.Compared.{Compared}

-- ---- of a node list

-- what the code holds of two files that were read is what counting asks
abbrev pub countable : {h : Header} {table s : List ℕ} (held : Held h table s) (P R before before' : List ℕ)
    → (P ≡ parents_of held.tree ++ drop (size held.tree) before) × (R ≡ rights_of held.tree ++ drop (size held.tree) before')
    → Countable h.initial s table P R
countable {s = s} held P R before before' links =
    record {
      automaton = held.automaton;
      tree = held.tree;
      proper = held.headed.tabled.proper;
      compiled = held.headed.tabled.compiled;
      initial_is = held.headed.initial;
      tables = tables-are held.tree s P R before before' (few_nodes held) held.writes.text links;
      symbols = λ i l.
          let below = below_at held.automaton.symbols s (symbols-below held) i (omega (arith, nodes-long held)) in
          omega (arith, below, held.headed.symbols, symbols-low held);
    }

-- no refusal 23
pub both-whole : (a b : List ℕ) → length a % 3 ≡ 0 → length b % 3 ≡ 0 → logs_check a b ≡ Ok tt
unfolding logs_check
both-whole a b e f = rw (eq-eqb _ 0 e, eq-eqb _ 0 f)

module _ (A : Automaton) (t : Tree) (a b : List ℕ) where
  pub tree-refused : (r : Refusal) → logs_check a b ≡ Err r → Err r ≡ compared_tree A t a b
  unfolding compared_tree
  tree-refused r e = rw e

  pub tree-counted : logs_check a b ≡ Ok tt → (m n : ℕ) → m ≡ run_prefix A t (entries_of a) → n ≡ run_prefix A t (entries_of b)
      → Ok (record { first = m; second = n }) ≡ compared_tree A t a b
  unfolding compared_tree
  tree-counted e m n f g = rw (e, f, g)

-- ---- of a tree's file

module _ (A : Automaton) (h : Header) (table : List ℕ) (headed : Headed A h table) (s a b : List ℕ) where
  pub file-refused : (r : Refusal) → read_tree (signature A h table headed s) s ≡ Err r → Err r ≡ compared_by A s a b
  unfolding compared_by
  file-refused r e = rw (signature-is A h table headed s, e)

  pub file-counted : (k : ℕ) → read_tree (signature A h table headed s) s ≡ Ok k
      → (r : Result Compared Refusal) → r ≡ compared_tree A (tree_of h.branches (nodes_of k (content s))) a b → r ≡ compared_by A s a b
  unfolding compared_by
  file-counted k e r f =
      rw (signature-is A h table headed s, e) (f ∙ ap (λ (x : ℕ). compared_tree A (tree_of x (nodes_of k (content s))) a b) (sym headed.branches))

-- ---- of both files

module _ (w s a b : List ℕ) where
  pub both-refused : (r : Refusal) → parsed w ≡ Err r → Err r ≡ compared_of w s a b
  unfolding compared_of
  both-refused r e = rw e

  pub both_read : (h : Header) → parsed w ≡ Ok h → compared_of w s a b ≡ compared_by (automaton_of h (content w)) s a b
  unfolding compared_of
  both_read h e = rw e
