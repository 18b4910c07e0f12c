-- What a watch left (W7): both files were read where it was not refused, and its log has the bytes of the walk's entries.
-- Assumes nothing.
use Rattle.std.proofs.Common.{Result, Ok, Err}
use Prim.Native.Nat.{ℕ, ◌+◌, ◌*◌}
use native.Mathlib.Omega.{arith}
use mathlib.Core.Path.{◌≡◌, refl, sym, ap, ◌∙◌}
use mathlib.Core.List.{List}
use lib.ListN.{length, take}
use Rattle.relation.specs.Lowest.{lowest_of}
use Rattle.model.specs.Trees.{Tree}
use Rattle.algorithms.specs.Automaton.{Automaton}
use Rattle.blocks.specs.Blocks.{content}
use Rattle.refusal.specs.declared.Refusal.{Refusal}
use Rattle.automaton.specs.File.{parsed}
use Rattle.automaton.specs.declared.Header.{Header}
use Rattle.transitions.specs.Transitions.{automaton_of}
use Rattle.determinism.specs.Determined.{determined}
use Rattle.nodes.specs.Nodes.{tree_of}
use Rattle.tree.specs.File.{nodes_of, read_tree}
use Rattle.membership.specs.Judged.{signature_of}
use Rattle.watch.specs.Walk.{walk_from, walk, bytes_of}
use Rattle.watch.specs.Checks.{watch_check}
use Rattle.watch.specs.Watch.{Outcome, log_after, watch_if, watch_tree, watch_by, watch_of}
use Rattle.watch.specs.Promise.{steps_of}
use Rattle.watch.specs.declared.Watched.{Watched}
use Rattle.watch.proofs.Turns.{by-turns}
use Rattle.watch.proofs.Telling.{both-refused, both_read}
use Rattle.watch.proofs.Watching.{log-front}
use Rattle.watch.proofs.Right.{nodes-read}
use Rattle.refusal.specs.Checks.{Check}
use Rattle.refusal.proofs.Passed.{clash}

-- the log of a watch that was not refused, in the buffer that was lent: the steps are in the answer
abbrev pub log_of : Watched → (buffer : List ℕ) → List ℕ
log_of x buffer = take (3 * (steps_of x + 1)) buffer

-- ---- the files

-- a refused tree is told by a watch
tree-refusal : (w s : List ℕ) (budget : ℕ) (before : List ℕ) (h : Header) → parsed w ≡ Ok h → (r : Refusal)
    → read_tree (signature_of (automaton_of h (content w))) s ≡ Err r → (watch_of w s budget before).answer ≡ Err r
unfolding watch_by
tree-refusal w s budget before h read r letter = ap (λ (x : Outcome). x.answer) (both_read w s budget before h read) ∙ rw letter

-- both files of a watch that was not refused were read
pub record Read (w s : List ℕ) : Type 0 where
  pub header : Header
  pub nodes : ℕ
  pub automaton-read : parsed w ≡ Ok header
  pub tree-read-is : read_tree (signature_of (automaton_of header (content w))) s ≡ Ok nodes

pub both-were-read : (w s : List ℕ) (budget : ℕ) (before : List ℕ) (x : Watched) → (watch_of w s budget before).answer ≡ Ok x → Read w s
both-were-read w s budget before x e = by-file (parsed w) refl
  where
    free : (r : Refusal) → (watch_of w s budget before).answer ≡ Err r → ⊥
    free r f = let g : ◌≡◌ {A = Result Watched Refusal} (Ok x) (Err r) = sym e ∙ f in clash (cc)

    by-tree : (h : Header) → parsed w ≡ Ok h → (y : Result ℕ Refusal) → read_tree (signature_of (automaton_of h (content w))) s ≡ y → Read w s
    by-tree h read (Ok k) letter = record { header = h; nodes = k; automaton-read = read; tree-read-is = letter }
    by-tree h read (Err r) letter = absurd (free r (tree-refusal w s budget before h read r letter))

    by-file : (y : Result Header Refusal) → parsed w ≡ y → Read w s
    by-file (Ok h) read = by-tree h read (read_tree (signature_of (automaton_of h (content w))) s) refl
    by-file (Err r) read = absurd (free r (ap (λ (o : Outcome). o.answer) (sym (both-refused w s budget before r read))))

-- ---- the log

-- the log of a walk has an entry more than steps
walk_steps : (A : Automaton) (t : Tree) (left made i p : ℕ) → made + length (walk_from A t left made i p).entries ≡ steps_of (walk_from A t left made i p).answer + 1
walk_steps A t =
    by-turns A t (λ left made i p w. made + length w.entries ≡ steps_of w.answer + 1) (λ left made i p e. refl) (λ left made i p e n. refl)
    (λ left made i p j q e n m. refl) (λ made i p j q e n m. refl) (λ left made i p j q e n m later. omega (arith, later))

walk-log : (c : Check) (A : Automaton) (t : Tree) (start budget : ℕ) (before : List ℕ)
    → (x : Watched) → (watch_if c (walk A t start budget) before).answer ≡ Ok x
    → log_of x (watch_if c (walk A t start budget) before).log ≡ bytes_of (walk A t start budget).entries
walk-log (Err r) A t start budget before x e = clash (cc)
walk-log (Ok _) A t start budget before x e =
    let same : (walk A t start budget).answer ≡ x = cc in
    let es = (walk A t start budget).entries in
    let n : steps_of x + 1 ≡ length es = rw (sym same) (omega (arith, walk_steps A t budget 0 0 start)) in
    ap (λ (k : ℕ). take (3 * k) (log_after es before)) n ∙ log-front es before

pub file-log : (w s : List ℕ) (budget : ℕ) (before : List ℕ) (h : Header) (k : ℕ) → parsed w ≡ Ok h → let A = automaton_of h (content w) in
    read_tree (signature_of A) s ≡ Ok k → (x : Watched) → (watch_of w s budget before).answer ≡ Ok x
    → log_of x (watch_of w s budget before).log ≡ bytes_of (walk A (tree_of A.branches (nodes_of k (content s))) (lowest_of A.initial) budget).entries
unfolding watch_tree
file-log w s budget before h k read letter x answer =
    let e = nodes-read w s budget before h read k letter in
    let A = automaton_of h (content w) in
    ap (λ (o : Outcome). log_of x o.log) e
    ∙ walk-log (watch_check (determined A) A budget (length before)) A _ (lowest_of A.initial) budget before x
    (sym (ap (λ (o : Outcome). o.answer) e) ∙ answer)
