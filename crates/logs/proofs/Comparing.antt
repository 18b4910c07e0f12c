-- The laws of document 02's W8, of two logs held together. The quotations are of W8. `Right` has them of files.
-- Assumes nothing.
use Rattle.std.proofs.Common.{Ok}
use Prim.Native.Nat.{ℕ, suc, ◌+◌, ◌*◌, ◌%◌, ◌≤◌, ◌<◌}
use native.Mathlib.Omega.{arith}
use mathlib.Core.Path.{◌≡◌, refl, sym, ap, ap₂, ◌∙◌, subst}
use mathlib.Core.List.{List, [], ◌∷◌}
use lib.ListN.{length, take}
use lib.Seq.{length-take-le, take-length}
use Rattle.relation.specs.Lowest.{lowest_of}
use Rattle.model.specs.declared.Place.TheVariants.{Root}
use Rattle.model.specs.Trees.{Tree}
use Rattle.model.specs.Runs.{Config, Run}
use Rattle.algorithms.specs.Automaton.{Automaton, Δ}
use Rattle.blocks.specs.Blocks.{content}
use Rattle.transitions.specs.Transitions.{automaton_of}
use Rattle.nodes.specs.Nodes.{tree_of}
use Rattle.tree.specs.File.{nodes_of}
use Rattle.tree.proofs.Reading.{tree-read}
use Rattle.membership.specs.Judged.{signature_of}
use Rattle.watch.specs.Walk.{Entry, bytes_of}
use Rattle.watch.specs.Watch.{Outcome, watch_of}
use Rattle.watch.specs.Promise.{steps_of, Logged, stands as logged-end, steps as logged-step, Watches}
use Rattle.watch.specs.declared.Watched.{Watched}
use Rattle.watch.proofs.Logs.{bytes-length}
use Rattle.watch.proofs.Watching.{log-front}
use Rattle.watch.proofs.Right.{watch-right}
use Rattle.agreement.specs.Common.{common_entries, common_part}
use Rattle.agreement.specs.Longest.{Agrees}
use Rattle.agreement.proofs.Agreeing.{common-longest}
use Rattle.logs.specs.Prefix.{entries_of, run_prefix}
use Rattle.logs.specs.Compare.{compared_of}
use Rattle.logs.specs.Promise.{Traced, stands, steps, Lawful}
use Rattle.logs.proofs.Entries.{entries-back}
use Rattle.logs.proofs.Watched.{log_of, both-were-read, file-log}
use Rattle.logs.proofs.Budgets.{smaller-opens, opens-part}
use Rattle.logs.proofs.Runs.{traced-run, prefix-counts}
use Rattle.logs.proofs.Telling.{both-whole, tree-counted}
use Rattle.logs.proofs.Right.{nodes-read}

-- ---- the part

-- "the longest opening stretch of whole entries in which the two agree": a beginning of both logs, whole entries, and no longer one is
pub record Stretch (a b part : List ℕ) : Type 0 where
  pub of-first : part ≡ take (length part) a
  pub of-second : part ≡ take (length part) b
  pub whole : length part % 3 ≡ 0
  pub longest : (j : ℕ) → Agrees a b j → 3 * j ≤ length part

pub part-stretch : (a b : List ℕ) → Stretch a b (common_part a b)
part-stretch a b =
    let l = common-longest a b in
    let n : length (common_part a b) ≡ 3 * common_entries a b = length-take-le _ a l.agrees.in_first in
    record {
      of-first = ap (λ (k : ℕ). take k a) (sym n);
      of-second = l.agrees.same ∙ ap (λ (k : ℕ). take k b) (sym n);
      whole = omega (arith, n);
      longest = λ j h. omega (arith, n, l.longest j h);
    }

-- ---- the counts

module _ (A : Automaton) (t : Tree) where
  -- "a lawful walk" is a run of the model from the root in a start state
  pub lawful-run : {es : List Entry} (l : Lawful A t es) → Run (Δ A) Root t ([], l.start) l.last
  lawful-run l = traced-run A t l.traced

  -- "how many entries from its start are a lawful walk": a count of c means that the first c entries are one ..
  pub counted-lawful : (es : List Entry) (c : ℕ) → run_prefix A t es ≡ suc c → Lawful A t (take (suc c) es)
  counted-lawful es c e = let h = prefix-counts A t es in (h.exactly c (omega (arith, h.within))).0 (omega arith)

  -- .. and that with the next they are none
  pub next-unlawful : (es : List Entry) → run_prefix A t es < length es → ¬ Lawful A t (take (suc (run_prefix A t es)) es)
  next-unlawful es l h = let g = ((prefix-counts A t es).exactly (run_prefix A t es) l).1 h in omega arith

  -- a lawful walk is counted to its end
  pub lawful-counted : (es : List Entry) → Lawful A t es → run_prefix A t es ≡ length es
  lawful-counted [] l = let h = prefix-counts A t [] in omega (arith, h.within)
  lawful-counted (e ∷ es) l =
      let h = prefix-counts A t (e ∷ es) in
      let whole = subst (Lawful A t) (sym (take-length (e ∷ es))) l in
      omega (arith, h.within, (h.exactly (length es) (omega arith)).1 whole)

  -- ---- a log that was watched (W7) is a lawful walk to its end

  logged-traced : {c d : Config} {es : List Entry} → Logged A t c es d → Traced A t c es d
  logged-traced (logged-end n) = stands n
  logged-traced (logged-step n h x l) = steps n x (logged-traced l)

  watched-lawful : (budget : ℕ) (before : List ℕ) (x : Watched) (after : List ℕ) (w : Watches A t budget before x after) → Lawful A t w.entries
  watched-lawful budget before x after w = record { start = w.start; starts = w.starts; last = w.last; traced = logged-traced w.run }

  -- the log is the buffer's front, an entry more than steps
  watched-log : (budget : ℕ) (before : List ℕ) (x : Watched) (after : List ℕ) (w : Watches A t budget before x after) → log_of x after ≡ bytes_of w.entries
  watched-log budget before x after w =
      ap₂ (λ (k : ℕ) (x : List ℕ). take (3 * k) x) (sym w.made) w.log ∙ log-front w.entries before

-- .. of files, for every automaton, tree and budget that W7 does not refuse: beside any log of whole entries it is counted to its end
module _ (w s : List ℕ) (budget : ℕ) (before b : List ℕ) (three : length b % 3 ≡ 0) where
  abbrev o : Outcome
  o = watch_of w s budget before

  pub watched-counted : (x : Watched) → o.answer ≡ Ok x
      → (n : ℕ) × (compared_of w s (log_of x o.log) b ≡ Ok (record { first = steps_of x + 1; second = n }))
  watched-counted x e =
      let f = both-were-read w s budget before x e in
      let A = automaton_of f.header (content w) in
      let t = tree_of A.branches (nodes_of f.nodes (content s)) in
      let writes = (tree-read (signature_of A) s f.nodes f.tree-read-is).tree in
      let v = (watch-right w s budget before).watches f.header f.nodes t f.automaton-read f.tree-read-is writes x e in
      let log = watched-log A t budget before x o.log v in
      let back : entries_of (log_of x o.log) ≡ v.entries = ap entries_of log ∙ entries-back v.entries in
      let all : steps_of x + 1 ≡ run_prefix A t (entries_of (log_of x o.log)) =
      sym (ap (run_prefix A t) back ∙ lawful-counted A t v.entries (watched-lawful A t budget before x o.log v) ∙ v.made) in
      let whole : length (log_of x o.log) % 3 ≡ 0 = omega (arith, ap length log, bytes-length v.entries) in (
        run_prefix A t (entries_of b),
        nodes-read w s (log_of x o.log) b f.header f.automaton-read f.nodes f.tree-read-is
            ∙ sym (tree-counted A t (log_of x o.log) b (both-whole (log_of x o.log) b whole three) _ _ all refl),
      )

-- ---- "Both panels of a line now log the walk of W7": two such logs part nowhere, and the part is the whole log of the smaller budget

pub panels-agree : (w s : List ℕ) (less more : ℕ) (before before' : List ℕ) → less ≤ more
    → (x : Watched) → (watch_of w s less before).answer ≡ Ok x → (y : Watched) → (watch_of w s more before').answer ≡ Ok y
    → common_part (log_of x (watch_of w s less before).log) (log_of y (watch_of w s more before').log) ≡ log_of x (watch_of w s less before).log
panels-agree w s less more before before' l x e y e' =
    let f = both-were-read w s less before x e in
    let A = automaton_of f.header (content w) in
    let t = tree_of A.branches (nodes_of f.nodes (content s)) in
    let start = lowest_of A.initial in
    let one = file-log w s less before f.header f.nodes f.automaton-read f.tree-read-is x e in
    let two = file-log w s more before' f.header f.nodes f.automaton-read f.tree-read-is y e' in
    ap₂ common_part one two ∙ opens-part _ _ (smaller-opens A t less more 0 0 start l) ∙ sym one
