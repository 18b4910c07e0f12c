-- Document 02's promises of W1 hold of what is written.
-- Assumes nothing.
use Rattle.std.proofs.Common.{Result, Ok, Err}
use Prim.Native.Nat.{ℕ, ◌*◌, ◌%◌, ◌<◌, ◌≤◌}
use native.Mathlib.Omega.{arith}
use mathlib.Core.Path.{◌≡◌, refl, sym, ap, subst, ◌∙◌}
use mathlib.Core.Bool.{Bool, true, false}
use mathlib.Core.List.{List}
use lib.ListN.{length, take, drop}
use lib.Dec.{ltb}
use lib.Seq.{take_at}
use borrow.Author.Tests.{eq-eqb, ne_eqb, le-ltb, lt-leb, ltb-false}
use Rattle.blocks.specs.Blocks.{content}
use Rattle.blocks.proofs.Laws.{find-nothing}
use Rattle.relation.specs.Bit.{bit}
use Rattle.relation.specs.Sets.{member}
use Rattle.model.specs.Trees.{Tree, size}
use Rattle.model.specs.Counting.{Over}
use Rattle.model.proofs.ListLaws.{nth-unique}
use Rattle.model.specs.Saturation.{WitnessRow, BuildsAt, leaf-row, node-row, Builds}
use Rattle.model.proofs.Witnesses.{builds-unique}
use Rattle.model.specs.declared.Signature.{Signature}
use Rattle.algorithms.specs.Automaton.{Automaton, Accepted, Proper, alphabet_of}
use Rattle.algorithms.proofs.Alphabets.{of-numbered}
use Rattle.algorithms.specs.Saturate.{language_of, algebra_of}
use Rattle.algorithms.proofs.Recognized.{recognizes}
use Rattle.algorithms.proofs.Theorems.{demand-3, count-unique}
use Rattle.refusal.specs.Checks.{refuse_if, ◌and_then◌}
use Rattle.refusal.specs.declared.Fault.{Fault}
use Rattle.refusal.specs.declared.Refusal.{Refusal}
use Rattle.refusal.proofs.Passed.{clash, both-passed}
use Rattle.automaton.specs.File.{parsed}
use Rattle.automaton.specs.declared.Header.{Header}
use Rattle.transitions.specs.Transitions.{automaton_of}
use Rattle.transitions.proofs.Meaning.{file-proper}
use Rattle.tree.specs.Payload.{tree_file}
use Rattle.nodes.specs.Preorder.{alphabet}
use Rattle.tree_writer.proofs.Reading.{reads_back}
use Rattle.membership.specs.Judged.{signature_of, judged}
use Rattle.membership.specs.declared.Answer.{Answer}
use Rattle.membership.proofs.Proved.{judged-right}
use Rattle.emptiness.specs.Surveyed.{plan_bytes, buffer_check, after_check as after_buffer, surveyed_by, surveyed}
use Rattle.emptiness.specs.Demand3.{Planned}
use Rattle.emptiness.specs.declared.Survey.{Survey}
use Rattle.emptiness.proofs.Proved.{surveyed-right}
use Rattle.witness.specs.Plan.{plan_rows, rows_in, symbol_at, left_at, right_at, plan_tree, length_wrong, parts_wrong, row_wrong, plan_check, large_check}
use Rattle.block_writer.specs.Written.{room_check, Filled, filled}
use Rattle.block_writer.proofs.Answers.{after-bytes, after_kept}
use Rattle.witness.specs.Written.{plan_file, space_check, witness_for, witness_of}
use Rattle.witness.specs.Promise.{PlanTree, TreeWritten, FoundWritten, Promise}
use Rattle.witness.proofs.Passed.{PlanPassed, plan-passed, sound}
use Rattle.witness.proofs.Building.{rows_back, bytes-length, rows-length, row-nth, plan-builds, plan-low, plan-over}
use Rattle.witness.proofs.Space.{large-passed, space-passed, space-passes}
use Rattle.witness.proofs.Found.{found-kept, RowBuilt, rows-built}

-- ---- the plan's tree, and its file read back

rows_few : (p : List ℕ) → rows_in p ≤ 65 → length (plan_rows p) ≤ 256
rows_few p h = omega (arith, rows-length p)

module _ (sg : Signature) (p : List ℕ) (passed : PlanPassed sg p) where
  plan-tree : size (plan_tree p) ≤ 4096 → PlanTree sg p (plan_tree p)
  plan-tree few =
      record {
        builds = plan-builds p (sound sg p passed);
        one = λ u b. builds-unique (rows_few p passed.few) b (plan-builds p (sound sg p passed));
        reads_back = reads_back sg (plan_tree p) (plan-over sg p passed) few (plan-low p (sound sg p passed));
      }

-- ---- an answer, back to its checks

file-written : (sg : Signature) (p out : List ℕ) (n : ℕ) → (witness_for sg p out).answer ≡ Ok n
    → TreeWritten sg p out (witness_for sg p out).out n
unfolding witness_for
file-written sg p out n e =
    let a = after-bytes (plan_check sg p and_then space_check p (length out)) (plan_file p) out n e in
    let both = both-passed (plan_check sg p) (space_check p (length out)) a.0 in
    record {
      tree = plan_tree p;
      plan = plan-tree sg p (plan-passed sg p both.0) (space-passed p (length out) both.1).0;
      long = a.1;
      bytes = a.2;
    }

-- ---- a plan whose rows all build trees over the signature passes 15

row-right : (sg : Signature) (p : List ℕ) (i : ℕ) {t : Tree} → i < rows_in p → BuildsAt (plan_rows p) i t → Over (alphabet sg) t → row_wrong sg p i ≡ false
unfolding row_wrong parts_wrong member
row-right sg p i l (leaf-row {σ = σ} a) o =
    let n = of-numbered 0 sg.branches 0 sg.symbols σ o in
    let e = nth-unique (row-nth p i l) a in
    let es : symbol_at p i ≡ σ = ap (λ (r : WitnessRow). r.symbol) e in
    let ea : left_at p i ≡ 255 = ap (λ (r : WitnessRow). r.left) e in
    let eb : right_at p i ≡ 255 = ap (λ (r : WitnessRow). r.right) e in
    rw (es, ea, eb, lt-leb sg.symbols σ (omega (arith, n.1)), ne_eqb (bit sg.branches σ) 1 (λ z. omega (arith, n.2)))
row-right sg p i l (node-row {σ = σ} {a = x} {b = y} a hx hy f g) o =
    let n = of-numbered 1 sg.branches 0 sg.symbols σ o.0 in
    let e = nth-unique (row-nth p i l) a in
    let es : symbol_at p i ≡ σ = ap (λ (r : WitnessRow). r.symbol) e in
    let ea : left_at p i ≡ x = ap (λ (r : WitnessRow). r.left) e in
    let eb : right_at p i ≡ y = ap (λ (r : WitnessRow). r.right) e in
    rw (es, ea, eb, lt-leb sg.symbols σ (omega (arith, n.1)), eq-eqb (bit sg.branches σ) 1 n.2, lt-leb i x hx, lt-leb i y hy)

pub plan-passes : (sg : Signature) (p : List ℕ) (n : ℕ) → length p ≡ 3 * n → 0 < n → n ≤ 65
    → ((i : ℕ) → i < rows_in p → (t : Tree) × BuildsAt (plan_rows p) i t × Over (alphabet sg) t) → plan_check sg p ≡ Ok tt
unfolding plan_check length_wrong
plan-passes sg p n e some few rows =
    let a : length p ≡ 0 → ⊥ = λ z. omega arith in
    let b : length p % 3 ≡ 0 = omega arith in
    let c : length p ≤ 195 = omega arith in
    let none = find-nothing (row_wrong sg p) 0 (rows_in p) (λ i lo hi. let r = rows i (omega arith) in row-right sg p i (omega arith) r.1 r.2) in
    rw (ne_eqb (length p) 0 a, eq-eqb (length p % 3) 0 b, le-ltb 195 (length p) c, none)

-- ---- the plan of a Found

-- a survey that finds had a buffer that is long enough
long-enough : (w : List ℕ) (h : Header) → parsed w ≡ Ok h → (buffer : List ℕ) (high rows : ℕ)
    → (surveyed w buffer).answer ≡ Ok (Survey.Found high rows) → 195 ≤ length buffer
unfolding surveyed surveyed_by buffer_check
long-enough w h read buffer high rows told = by (ltb (length buffer) 195) refl (rw read at told)
  where
    by : (t : Bool) → ltb (length buffer) 195 ≡ t
        → (after_buffer (refuse_if t Fault.Buffer 2 195) (automaton_of h (content w)) buffer).answer ≡ Ok (Survey.Found high rows) → 195 ≤ length buffer
    by true f e = clash (cc)
    by false f e = ltb-false (length buffer) 195 f

module _ (w : List ℕ) (h : Header) (read : parsed w ≡ Ok h) (buffer : List ℕ) (high rows : ℕ) (enough : 195 ≤ length buffer)
    (told : (surveyed w buffer).answer ≡ Ok (Survey.Found high rows)) where
  abbrev A : Automaton
  A = automaton_of h (content w)

  proper : Proper A
  proper = file-proper w h read

  planned : Planned A high rows buffer (surveyed w buffer).buffer
  planned = (surveyed-right w buffer h read enough).plan high rows told

  abbrev plan : List WitnessRow
  plan = planned.plan

  -- the bytes that the survey left are the plan's
  found-bytes : take (3 * rows) (surveyed w buffer).buffer ≡ plan_bytes plan
  found-bytes =
      let n : length (plan_bytes plan) ≡ 3 * rows = bytes-length plan ∙ omega (arith, planned.rows_told) in
      ap (take (3 * rows)) planned.bytes ∙ take_at (plan_bytes plan) (drop (3 * rows) buffer) (3 * rows) n

  -- "N(h-1) + 1 rows", with N(h-1) at most 64
  plan-few : length plan ≤ 65
  plan-few =
      let f = ((demand-3 A proper).says_found high).0 (plan, planned.is_surveys) in
      let same = count-unique A proper f.few.1 planned.witness.counted in
      omega (arith, f.few.2, planned.witness.rows)

  module _ (p : List ℕ) (is : p ≡ plan_bytes plan) where
    rows_are : plan_rows p ≡ plan
    rows_are = ap plan_rows is ∙ rows_back plan

    found-passes : plan_check (signature_of (automaton_of h (content w))) p ≡ Ok tt
    found-passes =
        let n : length p ≡ 3 * length plan = ap length is ∙ bytes-length plan in
        let k = found-kept (alphabet_of A) (algebra_of A) 64 high plan planned.is_surveys in
        let all : (i : ℕ) → i < length (plan_rows p) → RowBuilt (alphabet_of A) (plan_rows p) i =
        subst (λ (q : List WitnessRow). (i : ℕ) → i < length q → RowBuilt (alphabet_of A) q i) (sym rows_are)
        (rows-built (alphabet_of A) (language_of A) (algebra_of A) (recognizes A proper) plan k) in
        plan-passes (signature_of (automaton_of h (content w))) p (length plan) n (omega (arith, planned.witness.rows)) plan-few (λ i l. all i (omega (arith, rows-length p)))

    -- the tree that the plan builds is accepted
    found-accepted : (t : Tree) → Builds (plan_rows p) t → Accepted A t
    found-accepted t b =
        let passed = plan-passed (signature_of (automaton_of h (content w))) p found-passes in
        let mine : Builds (plan_rows p) planned.witness.tree = subst (λ (q : List WitnessRow). Builds q planned.witness.tree) (sym rows_are) planned.witness.builds in
        let same : t ≡ planned.witness.tree = builds-unique (rows_few p passed.few) b mine in
        rw same planned.witness.accepted

-- where no check stops it, the file's length is told
stops-not : (sg : Signature) (p out : List ℕ) → plan_check sg p ≡ Ok tt → large_check p ≡ Ok tt → room_check (length (plan_file p)) (length out) ≡ Ok tt
    → (witness_for sg p out).answer ≡ Ok (length (plan_file p))
unfolding witness_for
stops-not sg p out e a b = rw (e, space-passes p (length out) a b)

module _ (w p before : List ℕ) where
  pub refused-is : (r : Refusal) → parsed w ≡ Err r → witness_of w p before ≡ filled (Err r) before
  unfolding witness_of
  refused-is r read = rw read

  pub witness-is : (h : Header) → parsed w ≡ Ok h → witness_of w p before ≡ witness_for (signature_of (automaton_of h (content w))) p before
  unfolding witness_of
  witness-is h read = rw read

  file-promise : (h : Header) → parsed w ≡ Ok h → (n : ℕ) → (witness_of w p before).answer ≡ Ok n
      → TreeWritten (signature_of (automaton_of h (content w))) p before (witness_of w p before).out n
  file-promise h read n e =
      subst (λ (o : Filled). TreeWritten (signature_of (automaton_of h (content w))) p before o.out n) (sym (witness-is h read))
      (file-written (signature_of (automaton_of h (content w))) p before n (ap (λ (o : Filled). o.answer) (sym (witness-is h read)) ∙ e))

  -- the bytes told of are the file
  front-is : (h : Header) (n : ℕ) (t : TreeWritten (signature_of (automaton_of h (content w))) p before (witness_of w p before).out n)
      → take n (witness_of w p before).out ≡ tree_file t.tree
  front-is h n t = ap (take n) t.bytes ∙ take_at (tree_file t.tree) (drop n before) n (sym t.long)

  kept-promise : (q : Result Header Refusal) → parsed w ≡ q → (r : Refusal) → (witness_of w p before).answer ≡ Err r → (witness_of w p before).out ≡ before
  unfolding witness_of witness_for
  kept-promise (Err s) read r e = rw read
  kept-promise (Ok h) read r e =
      rw read (after_kept (plan_check (signature_of (automaton_of h (content w))) p and_then space_check p (length before)) (plan_file p) before r (rw read at e))

  tree-promise : (h : Header) → parsed w ≡ Ok h → plan_check (signature_of (automaton_of h (content w))) p ≡ Ok tt → large_check p ≡ Ok tt
      → (t : Tree) × PlanTree (signature_of (automaton_of h (content w))) p t
  tree-promise h read e l = (plan_tree p, plan-tree (signature_of (automaton_of h (content w))) p (plan-passed (signature_of (automaton_of h (content w))) p e) (large-passed p l))

  found-promise : (h : Header) → parsed w ≡ Ok h → (buffer : List ℕ) (high rows : ℕ)
      → (surveyed w buffer).answer ≡ Ok (Survey.Found high rows) → p ≡ take (3 * rows) (surveyed w buffer).buffer
      → FoundWritten w (automaton_of h (content w)) p before (witness_of w p before)
  found-promise h read buffer high rows told e =
      record {
        not_15 = passes;
        unless_stopped = λ a b. rw (witness-is h read) (stops-not (signature_of (automaton_of h (content w))) p before passes a b);
        judged_accepted = λ n f. let t = file-promise h read n f in rw (front-is h n t) (accepts t.tree t.plan);
        by_runs = runs;
      }
    where
      enough : 195 ≤ length buffer
      enough = long-enough w h read buffer high rows told

      bytes : p ≡ plan_bytes (planned w h read buffer high rows enough told).plan
      bytes = e ∙ found-bytes w h read buffer high rows enough told

      passes : plan_check (signature_of (automaton_of h (content w))) p ≡ Ok tt
      passes = found-passes w h read buffer high rows enough told p bytes

      runs : (t : Tree) → Builds (plan_rows p) t → Accepted (automaton_of h (content w)) t
      runs t b = found-accepted w h read buffer high rows enough told p bytes t b

      accepts : (t : Tree) → PlanTree (signature_of (automaton_of h (content w))) p t → judged w (tree_file t) ≡ Ok Answer.Accepted
      accepts t pl =
          let j = judged-right w (tree_file t) h (size t) read pl.reads_back.read in
          let same : t ≡ j.tree = j.one t pl.reads_back.writes in
          j.accepted.1 (subst (λ (u : Tree). Accepted (automaton_of h (content w)) u) same (runs t pl.builds))

  pub witness-right : Promise w p before (witness_of w p before)
  witness-right = record { kept = kept-promise (parsed w) refl; tree = tree-promise; file = file-promise; found = found-promise }
