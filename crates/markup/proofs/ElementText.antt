-- The laws of document 02's W6. The quotations are its sentences.
-- Assumes nothing.
use Rattle.std.proofs.Common.{Some, None, Ok}
use Prim.Native.Nat.{ℕ, ◌+◌, ◌*◌}
use native.Mathlib.Omega.{arith}
use mathlib.Core.Path.{◌≡◌, sym, ap, ◌∙◌}
use mathlib.Core.Logic.{◌↔◌}
use mathlib.Core.List.{List}
use lib.ListN.{length, take, drop}
use lib.Seq.{take_at}
use Rattle.blocks.specs.Blocks.{content}
use Rattle.model.specs.Trees.{Tree, size}
use Rattle.automaton.specs.File.{parsed}
use Rattle.automaton.specs.declared.Header.{Header}
use Rattle.transitions.specs.Transitions.{automaton_of}
use Rattle.tree.specs.Payload.{tree_file}
use Rattle.tree_writer.specs.ReadsBack.{ReadsBack}
use Rattle.membership.specs.Judged.{signature_of}
use Rattle.grammar.specs.Grammar.{Elements, Text, WrongAt, tree_of, elements_in, without_spaces}
use Rattle.grammar.specs.Wrong.{wrong_place}
use Rattle.grammar.proofs.Decided.{answered}
use Rattle.markup.specs.Written.{markup_of}
use Rattle.markup.specs.Promise.{Unchecked}
use Rattle.markup.proofs.Unambiguous.{unambiguous, same-run}
use Rattle.markup.proofs.Heights.{size-elements}
use Rattle.markup.proofs.Checked.{text-wrong, text-nothing}
use Rattle.markup.proofs.Right.{markup-right}

-- "A text is a run of one or more elements" in one way: it has one list of elements, and so one tree
pub one-tree : {s : List ℕ} {r q : Elements} → Text s r → Text s q → tree_of r ≡ tree_of q
one-tree t u = ap tree_of (unambiguous t.writes u.writes)

-- each element makes a branch, and each run ends in a leaf
pub two-nodes-more : (r : Elements) → size (tree_of r) ≡ 2 * elements_in r + 1
two-nodes-more r = omega (arith, size-elements r)

-- "place the first byte at which no continuation could be right, or the length if it ends early": exactly there, by the grammar; and nothing is
-- wrong exactly in a text
pub wrong-exactly : (s : List ℕ) (place : ℕ) → (wrong_place s ≡ Some place) ↔ WrongAt s place
wrong-exactly s place = ((λ e. rw e at (answered s)), text-wrong s place)

pub right-exactly : (s : List ℕ) → (wrong_place s ≡ None) ↔ ((r : Elements) × Text s r)
right-exactly s = ((λ e. rw e at (answered s)), λ t. text-nothing s t.0 t.1)

module _ (w : List ℕ) (h : Header) (read : parsed w ≡ Ok h) where
  -- "a text is accepted exactly if it follows this grammar and none of the checks below applies"
  pub accepted-exactly : (s out : List ℕ) → ((n : ℕ) × ((markup_of w s out).answer ≡ Ok n))
      ↔ ((r : Elements) × Text s r × Unchecked (signature_of (automaton_of h (content w))) s r (length out))
  accepted-exactly s out = (
    (λ a. let t = (markup-right w s out).file h read a.0 a.1 in (t.elements, t.text, t.unchecked)),
    (λ t. (length (tree_file (tree_of t.0)), (markup-right w s out).accepted h read t.0 t.1 t.2)),
  )

  -- reading the file back gives the tree of the text
  pub reads_back : (s out : List ℕ) (n : ℕ) (r : Elements) → (markup_of w s out).answer ≡ Ok n → Text s r
      → ReadsBack (signature_of (automaton_of h (content w))) (tree_of r) × (take n (markup_of w s out).out ≡ tree_file (tree_of r))
  reads_back s out n r e t =
      let f = (markup-right w s out).file h read n e in
      let same = one-tree f.text t in
      (rw same at f.reads_back, ap (take n) f.bytes ∙ take_at (tree_file (tree_of f.elements)) (drop n out) n (sym f.long) ∙ ap tree_file same)

  -- "Accepted texts that differ only in spaces give the same file"
  pub same-file : (s u out more : List ℕ) (n m : ℕ) → (markup_of w s out).answer ≡ Ok n → (markup_of w u more).answer ≡ Ok m
      → without_spaces s ≡ without_spaces u → (n ≡ m) × (take n (markup_of w s out).out ≡ take m (markup_of w u more).out)
  same-file s u out more n m e f k =
      let a = (markup-right w s out).file h read n e in
      let b = (markup-right w u more).file h read m f in
      let same : tree_of a.elements ≡ tree_of b.elements = ap tree_of (same-run a.text.writes b.text.writes k) in (
        a.long ∙ ap (λ (t : Tree). length (tree_file t)) same ∙ sym b.long,
        (reads_back s out n a.elements e a.text).1 ∙ ap tree_file same ∙ sym (reads_back u more m b.elements f b.text).1,
      )
