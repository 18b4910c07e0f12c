-- The answer and the log from the parts: of a node list, of a tree's file, of both files.
-- Assumes nothing.
use Rattle.std.proofs.Common.{Ok, Err}
use Prim.Native.Nat.{ℕ}
use mathlib.Core.Path.{◌≡◌, sym, ap, ap₂, ◌∙◌, subst}
use mathlib.Core.Bool.{Bool}
use mathlib.Core.List.{List}
use lib.ListN.{length}
use Rattle.relation.specs.Lowest.{lowest_of}
use Rattle.model.specs.Trees.{Tree}
use Rattle.model.specs.declared.Signature.{Signature}
use Rattle.algorithms.specs.Automaton.{Automaton}
use Rattle.blocks.specs.Blocks.{content}
use Rattle.refusal.specs.declared.Refusal.{Refusal}
use Rattle.automaton.specs.File.{WithinLimits, parsed}
use Rattle.automaton.specs.declared.Header.{Header}
use Rattle.automaton.proofs.Passed.{file-limits}
use Rattle.transitions.specs.Transitions.{automaton_of}
use Rattle.determinism.specs.Determined.{determined}
use Rattle.determinism.proofs.Determinism.{single-determined}
use Rattle.nodes.specs.Nodes.{tree_of}
use Rattle.tree.specs.File.{nodes_of, read_tree}
use Rattle.tree.proofs.Reading.{TreeRead}
use Rattle.overloops.specs.Ready.{Headed}
use Rattle.membership.specs.Judged.{signature_of}
use Rattle.watch.specs.Walk.{walk}
use Rattle.watch.specs.Checks.{watch_check}
use Rattle.watch.specs.Watch.{Outcome, outcome, watch_tree, watch_by, watch_of}
use Rattle.watch.specs.Following.{Followed, Held}
use Rattle.watch.specs.declared.Watched.{Watched}

-- ---- of a node list

module _ (single : Bool) (A : Automaton) (t : Tree) (budget : ℕ) (log : List ℕ) where
  pub tree-refused : (r : Refusal) → watch_check single A budget (length log) ≡ Err r
      → outcome (Err r) log ≡ watch_tree single A t budget log
  unfolding watch_tree
  tree-refused r e = rw e

  pub tree-walked : watch_check single A budget (length log) ≡ Ok tt → (initial : ℕ) → A.initial ≡ initial → (r : Watched) (after : List ℕ)
      → Followed (walk A t (lowest_of initial) budget) log r after → outcome (Ok r) after ≡ watch_tree single A t budget log
  unfolding watch_tree
  tree-walked e initial i r after f =
      let g = subst (λ (x : ℕ). Followed (walk A t (lowest_of x) budget) log r after) (sym i) f in
      rw e (ap₂ outcome (ap Ok g.answered) g.log)

-- ---- of a tree's file

module _ (A : Automaton) (h : Header) (table : List ℕ) (headed : Headed A h table) (s : List ℕ) where
  abbrev pub signature : Signature
  signature = record { symbols = h.symbols; branches = h.branches }

  pub signature-is : signature_of A ≡ signature
  signature-is = rw (headed.symbols, headed.branches)

  -- both files were read
  abbrev pub held : (k : ℕ) → WithinLimits h → TreeRead signature s k → Held h table (nodes_of k (content s))
  held k limits read =
      record {
        automaton = A;
        tree = tree_of h.branches (nodes_of k (content s));
        limits = limits;
        headed = headed;
        writes = rw signature-is read.tree;
        few = rw read.size read.most;
      }

  module _ (budget : ℕ) (log : List ℕ) where
    pub file-refused : (r : Refusal) → read_tree signature s ≡ Err r → outcome (Err r) log ≡ watch_by (determined A) A s budget log
    unfolding watch_by
    file-refused r e = rw (signature-is, e)

    pub file-watched : (k : ℕ) → read_tree signature s ≡ Ok k
        → (o : Outcome) → o ≡ watch_tree (determined A) A (tree_of h.branches (nodes_of k (content s))) budget log → o ≡ watch_by (determined A) A s budget log
    unfolding watch_by
    file-watched k e o f =
        rw (signature-is, e) (f ∙ ap (λ (b : ℕ). watch_tree (determined A) A (tree_of b (nodes_of k (content s))) budget log) (sym headed.branches))

-- ---- of both files

module _ (w s : List ℕ) (budget : ℕ) (log : List ℕ) where
  pub both-refused : (r : Refusal) → parsed w ≡ Err r → outcome (Err r) log ≡ watch_of w s budget log
  unfolding watch_of
  both-refused r e = rw e

  -- single, by what is computed of the automaton
  pub both_read : (h : Header) → parsed w ≡ Ok h → let A = automaton_of h (content w) in watch_of w s budget log ≡ watch_by (determined A) A s budget log
  unfolding watch_of
  both_read h e =
      let A = automaton_of h (content w) in
      rw e (ap (λ (b : Bool). watch_by b A s budget log) (single-determined h (content w) (file-limits w h e).0))
