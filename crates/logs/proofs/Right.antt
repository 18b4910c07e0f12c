-- Document 02's promises of W8 hold of what is handed back and told.
-- Assumes nothing.
use Rattle.std.proofs.Common.{Ok, Err, Result}
use Prim.Native.Nat.{ℕ, ◌%◌}
use mathlib.Core.Path.{◌≡◌, refl, sym, ap, ◌∙◌, subst}
use mathlib.Core.List.{List, []}
use lib.ListN.{length}
use Rattle.model.specs.Trees.{Tree}
use Rattle.algorithms.specs.Automaton.{Automaton}
use Rattle.blocks.specs.Blocks.{content}
use Rattle.refusal.specs.declared.Refusal.{Refusal}
use Rattle.refusal.proofs.Passed.{clash}
use Rattle.automaton.specs.File.{parsed}
use Rattle.automaton.specs.declared.Header.{Header}
use Rattle.transitions.specs.Transitions.{automaton_of}
use Rattle.nodes.specs.Nodes.{tree_of}
use Rattle.nodes.specs.Preorder.{Writes}
use Rattle.nodes.proofs.Laws.{writes_one}
use Rattle.tree.specs.File.{nodes_of, read_tree}
use Rattle.tree.proofs.Reading.{tree-read}
use Rattle.membership.specs.Judged.{signature_of}
use Rattle.agreement.specs.Common.{common_entries, common_part}
use Rattle.agreement.proofs.Agreeing.{common-longest}
use Rattle.logs.specs.Prefix.{entries_of, run_prefix}
use Rattle.logs.specs.Checks.{logs_check}
use Rattle.logs.specs.Compare.{count_if, compared_tree, compared_by, compared_of, part_of, told_of}
use Rattle.logs.specs.Promise.{Counts, Promise}
use Rattle.logs.specs.declared.Compared.{Compared}
use Rattle.logs.proofs.Runs.{prefix-counts}
use Rattle.logs.proofs.Telling.{both-whole, both_read}
use Rattle.logs.proofs.Refusing.{compared-numbered}
use Rattle.refusal.specs.Checks.{Check}

module _ (A : Automaton) (t : Tree) (a b : List ℕ) where
  tree-counts : (c : Compared) → compared_tree A t a b ≡ Ok c → Counts A t (entries_of a) c.first × Counts A t (entries_of b) c.second
  unfolding compared_tree
  tree-counts c e = by (logs_check a b) e
    where
      by : (x : Check) → count_if x (run_prefix A t (entries_of a)) (run_prefix A t (entries_of b)) ≡ Ok c
          → Counts A t (entries_of a) c.first × Counts A t (entries_of b) c.second
      by (Err r) f = clash (cc)
      by (Ok _) f =
          let same : ◌≡◌ {A = Compared} (record { first = run_prefix A t (entries_of a); second = run_prefix A t (entries_of b) }) c = cc in
          let one : run_prefix A t (entries_of a) ≡ c.first = ap (λ (x : Compared). x.first) same in
          let two : run_prefix A t (entries_of b) ≡ c.second = ap (λ (x : Compared). x.second) same in
          (subst (Counts A t (entries_of a)) one (prefix-counts A t (entries_of a)), subst (Counts A t (entries_of b)) two (prefix-counts A t (entries_of b)))

  tree-counted : length a % 3 ≡ 0 → length b % 3 ≡ 0 → (c : Compared) × (compared_tree A t a b ≡ Ok c)
  unfolding compared_tree
  tree-counted e f = (record { first = run_prefix A t (entries_of a); second = run_prefix A t (entries_of b) }, rw (both-whole a b e f))

module _ (w s a b : List ℕ) where
  refused-part : (x : Result Compared Refusal) (r : Refusal) → x ≡ Err r → part_of x a b ≡ []
  refused-part x r e = ap (λ (y : Result Compared Refusal). part_of y a b) e

  counted-part : (x : Result Compared Refusal) (c : Compared) → x ≡ Ok c → part_of x a b ≡ common_part a b
  counted-part x c e = ap (λ (y : Result Compared Refusal). part_of y a b) e

  module _ (h : Header) (read : parsed w ≡ Ok h) (k : ℕ) (letter : read_tree (signature_of (automaton_of h (content w))) s ≡ Ok k) where
    abbrev A : Automaton
    A = automaton_of h (content w)

    pub nodes-read : compared_of w s a b ≡ compared_tree A (tree_of A.branches (nodes_of k (content s))) a b
    unfolding compared_by
    nodes-read = both_read w s a b h read ∙ rw letter

    tree_is : (t : Tree) → Writes (signature_of A) (nodes_of k (content s)) t → compared_of w s a b ≡ compared_tree A t a b
    tree_is t writes =
        let same = writes_one (signature_of A) (nodes_of k (content s)) _ t (tree-read (signature_of A) s k letter).tree writes in
        nodes-read ∙ ap (λ (u : Tree). compared_tree A u a b) same

  pub compare-right : Promise w s a b (part_of (compared_of w s a b) a b) (told_of (compared_of w s a b))
  compare-right =
      record {
        answer = compared_of w s a b;
        told_is = refl;
        numbered = compared-numbered w s a b;
        refused = refused-part (compared_of w s a b);
        agreeing = λ c e. (common_entries a b, counted-part (compared_of w s a b) c e, common-longest a b);
        counts = λ h k t read letter writes c e. tree-counts (automaton_of h (content w)) t a b c (sym (tree_is h read k letter t writes) ∙ e);
        counted = λ h k read letter one two.
            let c = tree-counted (automaton_of h (content w)) (tree_of (automaton_of h (content w)).branches (nodes_of k (content s))) a b one two in
            (c.0, nodes-read h read k letter ∙ c.1);
      }

  -- what is equal to the definition's answer is right
  pub answered : (c : Result Compared Refusal) → c ≡ compared_of w s a b → {part told : List ℕ} → part ≡ part_of c a b → told ≡ told_of c
      → ((part ≡ part_of (compared_of w s a b) a b) × (told ≡ told_of (compared_of w s a b))) × Promise w s a b part told
  answered c e f g =
      let f' = f ∙ ap (λ (x : Result Compared Refusal). part_of x a b) e in
      let g' = g ∙ ap told_of e in
      ((f', g'), rw (f', g') compare-right)

  -- .. also where it is an answer by value
  pub answer-right : (c : Result Compared Refusal) → c ≡ compared_of w s a b → Promise w s a b (part_of c a b) (told_of c)
  answer-right c e = (answered c e refl refl).1
