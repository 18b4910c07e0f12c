-- Document 02's promises of W7 hold of what is answered and written.
-- Assumes nothing.
use Rattle.std.proofs.Common.{Result, Ok, Err}
use Prim.Native.Nat.{ℕ, ◌+◌, ◌≤◌}
use native.Mathlib.Omega.{arith}
use mathlib.Core.Path.{◌≡◌, refl, sym, ap, ◌∙◌, subst}
use mathlib.Core.Bool.{true}
use mathlib.Core.List.{List}
use lib.Count.{ones}
use lib.ListN.{length}
use Rattle.relation.specs.Lowest.{lowest_of}
use Rattle.model.specs.Trees.{Tree}
use Rattle.model.specs.Runs.{Deterministic}
use Rattle.algorithms.specs.Automaton.{Automaton, In, Δ, Proper}
use Rattle.blocks.specs.Blocks.{content}
use Rattle.refusal.specs.declared.Refusal.{Refusal}
use Rattle.automaton.specs.File.{parsed}
use Rattle.automaton.specs.declared.Header.{Header}
use Rattle.automaton.proofs.Passed.{file-limits}
use Rattle.transitions.specs.Transitions.{automaton_of}
use Rattle.transitions.proofs.Meaning.{file-proper}
use Rattle.determinism.specs.Determined.{determined}
use Rattle.determinism.proofs.Determinism.{single-determined, single-deterministic}
use Rattle.nodes.specs.Nodes.{tree_of}
use Rattle.nodes.specs.Preorder.{Writes}
use Rattle.nodes.proofs.Laws.{writes_one}
use Rattle.tree.specs.File.{nodes_of, read_tree}
use Rattle.tree.proofs.Reading.{tree-read}
use Rattle.membership.specs.Judged.{signature_of}
use Rattle.watch.specs.Walk.{walk}
use Rattle.watch.specs.Checks.{log_length, watch_check}
use Rattle.watch.specs.Watch.{Outcome, watch_tree, watch_by, watch_of, log_after}
use Rattle.watch.specs.Promise.{Watches, Promise}
use Rattle.watch.specs.declared.Watched.{Watched}
use Rattle.watch.proofs.Checking.{Unchecked, checks-passed, check-passes}
use Rattle.watch.proofs.Starts.{one-lowest, lowest-one, starts-low}
use Rattle.watch.proofs.Telling.{both_read}
use Rattle.refusal.proofs.Passed.{clash}
use Rattle.watch.proofs.Watching.{walk-walked, passed-accepted, stuck-rejected, circling-rejected}
use Rattle.refusal.specs.Checks.{Check}

-- ---- on a tree

module _ (A : Automaton) (t : Tree) (budget : ℕ) (before : List ℕ) where
  abbrev o : Outcome
  o = watch_tree (determined A) A t budget before

  abbrev check : Check
  check = watch_check (determined A) A budget (length before)

  tree-kept : (r : Refusal) → o.answer ≡ Err r → o.log ≡ before
  unfolding watch_tree
  tree-kept r e = by check refl
    where
      by : (c : Check) → check ≡ c → o.log ≡ before
      by (Err x) f = rw f
      by (Ok _) f = let g : ◌≡◌ {A = Result Watched Refusal} (Ok (walk A t (lowest_of A.initial) budget).answer) (Err r) = rw f at e in clash (cc)

  module _ (proper : Proper A) (single : (determined A ≡ true) → Deterministic (Δ A)) where
    followed : Unchecked (determined A) A budget (length before)
        → let w = walk A t (lowest_of A.initial) budget in Watches A t budget before w.answer (log_after w.entries before)
    followed free =
        let start = one-lowest A.initial (starts-low A proper) free.one-start in
        let s = lowest_of A.initial in
        let det = single free.one-run in
        let w = walk-walked A proper det t s start.0 start.1 budget in
        record {
          start = s;
          starts = start.0;
          only = start.1;
          entries = (walk A t s budget).entries;
          last = w.last;
          run = w.run;
          made = (let z : length (walk A t s budget).entries ≡ 0 + length (walk A t s budget).entries = omega arith in z) ∙ w.counted;
          log = refl;
          stopped = w.stopped;
          passed = passed-accepted A proper det t s start.0 start.1 budget;
          stuck = stuck-rejected A proper det t s start.0 start.1 budget;
          circling = circling-rejected A proper det t s start.0 start.1 budget;
        }

    -- a call that no check stops is followed
    tree-watches : (x : Watched) → o.answer ≡ Ok x → Watches A t budget before x o.log
    unfolding watch_tree
    tree-watches x f = by check refl
      where
        by : (c : Check) → check ≡ c → Watches A t budget before x o.log
        by (Err r) e = let g : ◌≡◌ {A = Result Watched Refusal} (Err r) (Ok x) = rw e at f in clash (cc)
        by (Ok _) e =
            let w = walk A t (lowest_of A.initial) budget in
            let g : ◌≡◌ {A = Result Watched Refusal} (Ok w.answer) (Ok x) = rw e at f in
            let same : w.answer ≡ x = cc in
            rw (e, sym same) (followed (checks-passed (determined A) A budget (length before) e))

  tree-follows : Proper A → determined A ≡ true → (start : ℕ) → In A.initial start → ((q : ℕ) → In A.initial q → q ≡ start) → budget ≤ 20000
      → log_length budget ≤ length before → (r : Refusal) → ¬ (o.answer ≡ Err r)
  unfolding watch_tree
  tree-follows proper single start starts only low room r e =
      let one = lowest-one A.initial (starts-low A proper) start starts only in
      let pass = check-passes (determined A) A budget (length before) single (ones A.initial) refl one low room in
      let g : ◌≡◌ {A = Result Watched Refusal} (Ok (walk A t (lowest_of A.initial) budget).answer) (Err r) = rw (sym pass) at e in clash (cc)

-- ---- of files

module _ (w s : List ℕ) (budget : ℕ) (before : List ℕ) where
  module _ (h : Header) (read : parsed w ≡ Ok h) where
    abbrev A : Automaton
    A = automaton_of h (content w)

    deterministic : determined A ≡ true → Deterministic (Δ A)
    deterministic e = (single-deterministic h (content w)).0 (single-determined h (content w) (file-limits w h read).0 ∙ e)

    single-is : Deterministic (Δ A) → determined A ≡ true
    single-is d = sym (single-determined h (content w) (file-limits w h read).0) ∙ (single-deterministic h (content w)).1 d

    pub nodes-read : (k : ℕ) → read_tree (signature_of A) s ≡ Ok k
        → watch_of w s budget before ≡ watch_tree (determined A) A (tree_of A.branches (nodes_of k (content s))) budget before
    unfolding watch_by
    nodes-read k e = both_read w s budget before h read ∙ rw e

    tree_is : (k : ℕ) (t : Tree) → read_tree (signature_of A) s ≡ Ok k → Writes (signature_of A) (nodes_of k (content s)) t
        → watch_of w s budget before ≡ watch_tree (determined A) A t budget before
    tree_is k t e writes =
        let same = writes_one (signature_of A) (nodes_of k (content s)) _ t (tree-read (signature_of A) s k e).tree writes in
        nodes-read k e ∙ ap (λ (u : Tree). watch_tree (determined A) A u budget before) same

    kept_by : (r : Refusal) → (watch_by (determined A) A s budget before).answer ≡ Err r → (watch_by (determined A) A s budget before).log ≡ before
    unfolding watch_by
    kept_by r e = by (read_tree (signature_of A) s) refl
      where
        by : (x : Result ℕ Refusal) → read_tree (signature_of A) s ≡ x → (watch_by (determined A) A s budget before).log ≡ before
        by (Err x) f = rw f
        by (Ok k) f = rw f (tree-kept A (tree_of A.branches (nodes_of k (content s))) budget before r (rw f at e))

  kept-promise : (p : Result Header Refusal) → parsed w ≡ p → (r : Refusal) → (watch_of w s budget before).answer ≡ Err r → (watch_of w s budget before).log ≡ before
  unfolding watch_of
  kept-promise (Err x) read r e = rw read
  kept-promise (Ok h) read r e =
      let same = both_read w s budget before h read in
      ap (λ (x : Outcome). x.log) same ∙ kept_by h read r (sym (ap (λ (x : Outcome). x.answer) same) ∙ e)

  pub watch-right : Promise w s budget before (watch_of w s budget before)
  watch-right =
      record {
        kept = kept-promise (parsed w) refl;
        watches = λ h k t read letter writes x e.
            let same = tree_is h read k t letter writes in
            subst (λ (o : Outcome). Watches (automaton_of h (content w)) t budget before x o.log) (sym same)
            (tree-watches (automaton_of h (content w)) t budget before (file-proper w h read) (deterministic h read) x
            (sym (ap (λ (o : Outcome). o.answer) same) ∙ e));
        follows = λ h k start read letter det starts only low room r e.
            tree-follows (automaton_of h (content w)) _ budget before (file-proper w h read) (single-is h read det) start starts only low room r
            (sym (ap (λ (x : Outcome). x.answer) (nodes-read h read k letter)) ∙ e);
      }
