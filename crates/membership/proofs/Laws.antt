-- The answer from the loops at the root; what is known of a tree that was read.
-- Assumes nothing.
use Rattle.std.proofs.Common.{Result, Ok, Err}
use Prim.Native.Nat.{ℕ}
use mathlib.Core.Path.{◌≡◌}
use mathlib.Core.Bool.{Bool}
use mathlib.Core.List.{List}
use lib.ListN.{take}
use Rattle.relation.specs.Rows.{meeting}
use Rattle.model.specs.Trees.{Tree}
use Rattle.model.specs.declared.Place.{Place}
use Rattle.algorithms.specs.Automaton.{Automaton}
use Rattle.algorithms.specs.Overloops.{loops, accepts?}
use Rattle.algorithms.specs.Growth.{growths}
use Rattle.model.specs.declared.Signature.{Signature}
use Rattle.refusal.specs.declared.Refusal.{Refusal}
use Rattle.automaton.specs.declared.Header.{Header}
use Rattle.automaton.specs.File.{signature_in}
use Rattle.overloops.specs.Ready.{Headed}
use Rattle.overloops.proofs.Laws.{accepted-by}
use Rattle.blocks.specs.Blocks.{content}
use Rattle.tree.specs.File.{nodes_of, read_tree, nodes_after}
use Rattle.nodes.specs.Nodes.{tree_of}
use Rattle.tree.proofs.Reading.{TreeRead, nodes-front}
use Rattle.membership.specs.Judged.{signature_of, accepted_if, judged_by}
use Rattle.membership.specs.Grown.{growth_by}

pub accepts-by : (A : Automaton) (t : Tree) (initial final : ℕ) (rows : List ℕ) (b : Bool) → A.initial ≡ initial → A.accepting ≡ final
    → rows ≡ loops A Place.Root t → b ≡ meeting rows initial final → b ≡ accepts? A t
unfolding accepts?
accepts-by A t initial final rows b i f l m = accepted-by A initial final rows (loops A Place.Root t) b i f l m

-- what reading leaves at the front of the buffer
pub front-is : (sg : Signature) (s : List ℕ) (k : ℕ) (buffer after : List ℕ) (r : Result ℕ Refusal) → r ≡ Ok k → after ≡ nodes_after r s buffer
    → TreeRead sg s k → take k after ≡ nodes_of k (content s)
front-is sg s k buffer after r e f t = rw (f, e) (nodes-front sg s k buffer t)

-- ---- the answer by an automaton, where its header's signature is read against

module _ (A : Automaton) (h : Header) (t : List ℕ) (k : Headed A h t) (s : List ℕ) where
  read_by : (r : Result ℕ Refusal) → read_tree (signature_in h) s ≡ r → read_tree (signature_of A) s ≡ r
  read_by r e = rw (k.symbols, k.branches) e

  pub judged-refused : (x : Refusal) → read_tree (signature_in h) s ≡ Err x → Err x ≡ judged_by A s
  unfolding judged_by
  judged-refused x e = rw (read_by _ e)

  pub judged-nodes : (n : ℕ) (b : Bool) → read_tree (signature_in h) s ≡ Ok n → b ≡ accepts? A (tree_of h.branches (nodes_of n (content s)))
      → Ok (accepted_if b) ≡ judged_by A s
  unfolding judged_by
  judged-nodes n b e f = rw (read_by _ e, f, k.branches)

  pub growth-refused : (x : Refusal) → read_tree (signature_in h) s ≡ Err x → 0 ≡ growth_by A s
  unfolding growth_by
  growth-refused x e = rw (read_by _ e)

  pub growth-nodes : (n g : ℕ) → read_tree (signature_in h) s ≡ Ok n → g ≡ growths A Place.Root (tree_of h.branches (nodes_of n (content s)))
      → g ≡ growth_by A s
  unfolding growth_by
  growth-nodes n g e f = rw (read_by _ e, f, k.branches)
