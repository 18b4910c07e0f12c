-- Demand 2 holds of what judging answers, and its sum is the one that is counted from runs.
use Rattle.std.proofs.Common.{Result, Ok, Err}
use mathlib.Core.Path.{◌≡◌, refl, sym, ap, ◌∙◌}
use mathlib.Core.Logic.{◌↔◌}
use mathlib.Core.Bool.{Bool, true, false}
use mathlib.Core.List.{List}
use Prim.Native.Nat.{ℕ, ◌*◌, ◌≤◌}
use native.Mathlib.Omega.{arith}
use lib.ListN.{length}
use lib.Dec.{T}
use Rattle.model.specs.declared.Place.{Place}
use Rattle.model.specs.Trees.{Tree, size}
use Rattle.algorithms.specs.Automaton.{Automaton, Proper}
use Rattle.algorithms.specs.Overloops.{accepts?}
use Rattle.algorithms.specs.Growth.{Grows}
use Rattle.algorithms.proofs.Grown.{grows, growths-few}
use Rattle.algorithms.proofs.Theorems.{demand-2}
use Rattle.blocks.specs.Blocks.{content}
use Rattle.refusal.proofs.Passed.{clash}
use Rattle.refusal.specs.declared.Refusal.{Refusal}
use Rattle.automaton.specs.File.{parsed}
use Rattle.automaton.specs.declared.Header.{Header}
use Rattle.transitions.specs.Transitions.{automaton_of}
use Rattle.transitions.proofs.Meaning.{file-proper}
use Rattle.tree.specs.File.{nodes_of, read_tree}
use Rattle.nodes.specs.Preorder.{Writes}
use Rattle.nodes.proofs.Standing.{size-preorder}
use Rattle.nodes.specs.Nodes.{tree_of}
use Rattle.tree.proofs.Reading.{tree-read}
use Rattle.nodes.proofs.Laws.{writes_one}
use Rattle.membership.specs.Judged.{signature_of, accepted_if, answer_of, judged_by, judged}
use Rattle.membership.specs.Grown.{growth_read, growth_by, growth_judged, judged_with, GrowthRight}
use Rattle.membership.specs.Demand2.{Demand2}
use Rattle.membership.specs.declared.Answer.{Answer}

-- a test that is told, against what it tests
told-accepted : (b : Bool) {X : Type 0} → T b ↔ X → (◌≡◌ {A = Result Answer Refusal} (Ok (accepted_if b)) (Ok Answer.Accepted)) ↔ X
told-accepted true e = (λ h. e.0 tt, λ x. refl)
told-accepted false e = (λ h. clash (cc), λ x. absurd (e.1 x))

told-other : (b : Bool) {X : Type 0} → T b ↔ X → (◌≡◌ {A = Result Answer Refusal} (Ok (accepted_if b)) (Ok Answer.Other)) ↔ (¬ X)
told-other true e = (λ h. clash (cc), λ n. absurd (n (e.0 tt)))
told-other false e = (λ h x. e.1 x, λ n. refl)

told-not-refused : (b : Bool) (x : Refusal) → ¬ (Ok (accepted_if b) ≡ Err x)
told-not-refused true x e = clash (cc)
told-not-refused false x e = clash (cc)

-- the tree that is judged is the one that the file's list writes
pub judged-right : (w s : List ℕ) → Demand2 w s (judged w s)
unfolding judged judged_by
judged-right w s h k read letter =
    let A = automaton_of h (content w) in
    let known = tree-read (signature_of A) s k letter in
    let t = tree_of h.branches (nodes_of k (content s)) in
    let run = demand-2 A (file-proper w h read) t in
    rw (read, letter)
    (record {
      tree = t;
      writes = known.tree;
      one = λ u written. writes_one (signature_of A) _ u t written known.tree;
      accepted = told-accepted (accepts? A t) run;
      other = told-other (accepts? A t) run;
      no_refusal = told-not-refused (accepts? A t);
    })

-- ---- the sum

-- of the tree that the list writes, and of no other
counted-right : (A : Automaton) → Proper A → (s : List ℕ) (k : ℕ) → read_tree (signature_of A) s ≡ Ok k
    → ((t : Tree) → Writes (signature_of A) (nodes_of k (content s)) t → Grows A Place.Root t (growth_by A s)) × (growth_by A s ≤ 576 * k)
unfolding growth_by
counted-right A P s k letter =
    let known = tree-read (signature_of A) s k letter in
    let u = tree_of A.branches (nodes_of k (content s)) in
    let size_is : size u ≡ k = sym (size-preorder u) ∙ sym (ap length known.tree.text) ∙ known.size in
    let few = growths-few A P Place.Root u in
    rw letter (
      λ t written. rw (writes_one (signature_of A) _ t u written known.tree) (grows A P Place.Root u),
      omega (arith, few, ap (λ (n : ℕ). 576 * n) size_is),
    )

-- a refusal's sum
read-refused : (A : Automaton) (p : Result ℕ Refusal) (s : List ℕ) (x : Refusal) → answer_of A p s ≡ Err x → growth_read A p s ≡ 0
read-refused A (Ok k) s x e = absurd (told-not-refused (accepts? A (tree_of A.branches (nodes_of k (content s)))) x e)
read-refused A (Err r) s x e = refl

by-refused : (w s : List ℕ) (p : Result Header Refusal) → parsed w ≡ p → (x : Refusal) → judged w s ≡ Err x → growth_judged w s ≡ 0
unfolding judged judged_by growth_judged growth_by
by-refused w s (Ok h) e x refused =
    let A = automaton_of h (content w) in
    rw e (read-refused A (read_tree (signature_of A) s) s x (rw e at refused))
by-refused w s (Err r) e x refused = rw e

pub growth-right : (w s : List ℕ) → GrowthRight w s (judged_with w s)
unfolding growth_judged
growth-right w s = record { counted = by; refused = by-refused w s (parsed w) refl }
  where
    by : (h : Header) (k : ℕ) → parsed w ≡ Ok h
        → let A = automaton_of h (content w) in read_tree (signature_of A) s ≡ Ok k
        → ((t : Tree) → Writes (signature_of A) (nodes_of k (content s)) t → Grows A Place.Root t (growth_judged w s)) × (growth_judged w s ≤ 576 * k)
    by h k read letter = rw read (counted-right (automaton_of h (content w)) (file-proper w h read) s k letter)
