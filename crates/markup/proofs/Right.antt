-- Document 02's promises of W6 hold of what is written.
-- Assumes nothing.
use Rattle.std.proofs.Common.{Result, Ok, Err}
use Prim.Native.Nat.{ℕ, ◌≤◌}
use native.Mathlib.Omega.{arith}
use mathlib.Core.Path.{◌≡◌, refl, sym, ap, subst, ◌∙◌}
use mathlib.Core.List.{List, ◌++◌}
use lib.Dec.{ltb}
use lib.ListN.{length, drop}
use borrow.Author.Tests.{le-ltb, ltb-false}
use Rattle.blocks.specs.Blocks.{content}
use Rattle.model.specs.Trees.{size, height}
use Rattle.model.specs.declared.Signature.{Signature}
use Rattle.refusal.specs.Checks.{refused, refuse_if, ◌and_then◌}
use Rattle.refusal.specs.Numbers.{number_of}
use Rattle.refusal.specs.declared.Fault.{Fault}
use Rattle.refusal.specs.declared.Refusal.{Refusal}
use Rattle.refusal.proofs.Passed.{both-passed, if-passed}
use Rattle.automaton.specs.File.{parsed}
use Rattle.automaton.specs.declared.Header.{Header}
use Rattle.transitions.specs.Transitions.{automaton_of}
use Rattle.transitions.proofs.Meaning.{file-symbols}
use Rattle.nodes.specs.Nodes.{height_check, nodes_check}
use Rattle.nodes.specs.Preorder.{preorder, Writes}
use Rattle.nodes.proofs.Laws.{low-next, writes}
use Rattle.tree.specs.Payload.{tree_file}
use Rattle.tree_writer.proofs.Reading.{reads_back}
use Rattle.block_writer.specs.Written.{room_check, Filled, filled}
use Rattle.block_writer.proofs.Answers.{room-passed, room-enough, after-bytes, after_kept}
use Rattle.membership.specs.Judged.{signature_of}
use Rattle.tags.specs.Tags.{nodes_in}
use Rattle.grammar.specs.Grammar.{Elements, Text, tree_of}
use Rattle.markup.specs.Checks.{text_tree, text_check, tag_check, size_check, tree_check, Signed}
use Rattle.markup.specs.Written.{text_file, markup_check, markup_for, markup_of}
use Rattle.markup.specs.Promise.{Unchecked, TextWritten, Promise}
use Rattle.markup.proofs.Unambiguous.{text-nodes}
use Rattle.markup.proofs.Checked.{text-long, text-short, text-wrong, text-nothing, text-passed, text-tree, leaf-zero}
use Rattle.markup.proofs.Heights.{tree_is, only-height}

-- ---- what 4 and 12 leave of a text's tree, and what they pass

module _ (s : List ℕ) (r : Elements) (t : Text s r) where
  tree-checked : tree_check s ≡ Ok tt → (size (tree_of r) ≤ 4096) × (height_check (tree_of r) ≡ Ok tt)
  unfolding tree_check size_check
  tree-checked e =
      let both = both-passed (refuse_if (ltb 4096 (size (text_tree s))) Fault.Count 1 2) (height_check (text_tree s)) e in
      let few = ltb-false 4096 (size (text_tree s)) (if-passed _ Fault.Count 1 2 both.0) in
      (rw (text-tree t) at few, rw (text-tree t) at both.1)

  tree-passes : size (tree_of r) ≤ 4096 → height_check (tree_of r) ≡ Ok tt → tree_check s ≡ Ok tt
  unfolding tree_check size_check
  tree-passes few low = rw (text-tree t, le-ltb 4096 (size (tree_of r)) few, low)

  low-passes : height (tree_of r) ≤ 64 → height_check (tree_of r) ≡ Ok tt
  unfolding height_check
  low-passes h = rw (low-next 65 0 (tree_of r) (omega arith))

  file-is : text_file s ≡ tree_file (tree_of r)
  file-is = ap tree_file (text-tree t)

module _ (sg : Signature) (signed : Signed sg) (s : List ℕ) (r : Elements) (t : Text s r) (tags : tag_check sg s ≡ Ok tt) where
  nodes_are : nodes_check sg (nodes_in s) ≡ height_check (tree_of r)
  nodes_are = only-height sg s r t.writes (leaf-zero sg s tags) tags signed

  -- 12 passes the tree exactly if it is low; then it is over the signature
  tree-writes : height_check (tree_of r) ≡ Ok tt → Writes sg (preorder (tree_of r)) (tree_of r)
  tree-writes e =
      let same = tree_is sg s r t.writes (leaf-zero sg s tags) tags in
      rw (same, text-nodes t.writes) at (writes sg (nodes_in s) (nodes_are ∙ e))

-- ---- an answer, back to its checks

module _ (sg : Signature) (signed : Signed sg) (s out : List ℕ) where
  file-written : (n : ℕ) → (markup_for sg s out).answer ≡ Ok n → TextWritten sg s out (markup_for sg s out).out n
  unfolding markup_for markup_check
  file-written n e =
      let a = after-bytes (markup_check sg s (length out)) (text_file s) out n e in
      let room = room_check (length (text_file s)) (length out) in
      let first = both-passed (text_check s) (tag_check sg s and_then tree_check s and_then room) a.0 in
      let second = both-passed (tag_check sg s) (tree_check s and_then room) first.1 in
      let third = both-passed (tree_check s) room second.1 in
      let p = text-passed s first.0 in
      let r = p.1.0 in
      let t = p.1.1 in
      let k = tree-checked s r t third.0 in
      let f = file-is s r t in
      let wr = tree-writes sg signed s r t second.0 k.1 in
      record {
        elements = r;
        text = t;
        unchecked =
            record {
              short = p.0;
              tags = second.0;
              few = k.0;
              low = wr.low;
              enough = rw f at (room-passed (length (text_file s)) (length out) third.1);
            };
        long = a.1 ∙ ap length f;
        bytes = a.2 ∙ ap (λ (x : List ℕ). x ++ drop n out) f;
        reads_back = reads_back sg (tree_of r) wr.over k.0 wr.low;
      }

  -- a text to which no check applies is written
  text-accepted : (r : Elements) → Text s r → Unchecked sg s r (length out) → (markup_for sg s out).answer ≡ Ok (length (tree_file (tree_of r)))
  unfolding markup_for markup_check
  text-accepted r t u =
      let f = file-is s r t in
      let text : text_check s ≡ Ok tt = text-short s u.short ∙ rw (text-nothing s r t) in
      let tree = tree-passes s r t u.few (low-passes s r t u.low) in
      let room : room_check (length (text_file s)) (length out) ≡ Ok tt = rw f (room-enough _ (length out) u.enough) in
      rw (text, u.tags, tree, room) (ap (λ (x : List ℕ). Ok (length x)) f)

  -- and one that 18 refuses is refused
  text-refused : (place : ℕ) → text_check s ≡ refused Fault.Text 2 place
      → (markup_for sg s out).answer ≡ Err (record { number = number_of Fault.Text; file = 2; place = place })
  unfolding markup_for markup_check
  text-refused place e = rw e

module _ (w s before : List ℕ) where
  pub refused-is : (r : Refusal) → parsed w ≡ Err r → markup_of w s before ≡ filled (Err r) before
  unfolding markup_of
  refused-is r read = rw read

  pub markup-is : (h : Header) → parsed w ≡ Ok h → markup_of w s before ≡ markup_for (signature_of (automaton_of h (content w))) s before
  unfolding markup_of
  markup-is h read = rw read

  kept-promise : (q : Result Header Refusal) → parsed w ≡ q → (r : Refusal) → (markup_of w s before).answer ≡ Err r → (markup_of w s before).out ≡ before
  unfolding markup_of markup_for
  kept-promise (Err x) read r e = rw read
  kept-promise (Ok h) read r e =
      rw read (after_kept (markup_check (signature_of (automaton_of h (content w))) s (length before)) (text_file s) before r (rw read at e))

  module _ (h : Header) (read : parsed w ≡ Ok h) where
    answer-is : (markup_of w s before).answer ≡ (markup_for (signature_of (automaton_of h (content w))) s before).answer
    answer-is = ap (λ (o : Filled). o.answer) (markup-is h read)

    file-promise : (n : ℕ) → (markup_of w s before).answer ≡ Ok n
        → TextWritten (signature_of (automaton_of h (content w))) s before (markup_of w s before).out n
    file-promise n e =
        subst (λ (o : Filled). TextWritten (signature_of (automaton_of h (content w))) s before o.out n) (sym (markup-is h read))
        (file-written (signature_of (automaton_of h (content w))) (file-symbols w h read) s before n (sym answer-is ∙ e))

  pub markup-right : Promise w s before (markup_of w s before)
  markup-right =
      record {
        kept = kept-promise (parsed w) refl;
        file = file-promise;
        accepted = λ h read r t u. answer-is h read ∙ text-accepted (signature_of (automaton_of h (content w))) (file-symbols w h read) s before r t u;
        long = λ h read l.
            answer-is h read ∙ text-refused (signature_of (automaton_of h (content w))) (file-symbols w h read) s before 32768 (text-long s l);
        wrong = λ h read l place x.
            answer-is h read
            ∙ text-refused (signature_of (automaton_of h (content w))) (file-symbols w h read) s before place (text-short s l ∙ rw (text-wrong s place x));
      }
