-- Every row of the board is right: what is computed of its files is what the table says, by one equation over the table, and a law turns that
-- into what a row says.
-- Assumes nothing.
use Rattle.std.proofs.Common.{Result, Ok, Err}
use mathlib.Core.Path.{◌≡◌, refl, sym, ap, ◌∙◌}
use mathlib.Core.Logic.{◌↔◌}
use mathlib.Core.Bool.{Bool, true, false}
use mathlib.Core.List.Memᴰ
use mathlib.Core.List.{List, [], ◌∷◌, ◌++◌, map, flat_map}
use Prim.Native.Nat.{ℕ, ◌≤◌}
use borrow.Author.Tests.{le-ltb}
use lib.Dec.{T}
use lib.ListN.{length, drop}
use Rattle.relation.specs.Sets.{member}
use Rattle.model.specs.Lists.{◌∈◌, count_from}
use Rattle.model.specs.Trees.{Tree}
use Rattle.model.specs.Saturation.{leaf_candidate, class_at, node_candidate, node_candidates, candidates, first_if, first_accepted, known, keep_if_new}
use Rattle.model.specs.Saturation.{absorb, settle, conclude, round, after, rounds, saturation}
use Rattle.model.specs.Saturation.{Verdict, Found, Open, Empty}
use Rattle.algorithms.specs.Automaton.{Automaton, Accepted}
use Rattle.algorithms.specs.Overloops.{moves, leaf_loops, node_loops, up_closure, leaf_overloops, node_overloops, overloops, loops, accepts?}
use Rattle.algorithms.specs.Saturate.{saturation_of}
use Rattle.algorithms.specs.Approximate.{union, leaf_side, formed_side, formed, settled, least_parts, root_side, clear?}
use Rattle.blocks.specs.Blocks.{word_at, word_sum, block_check, check_wrong, contents, content}
use Rattle.blocks.specs.FileOf.{check_for, word_bytes, file_byte, listed, file_of}
use Rattle.blocks.specs.Search.{lowest_from}
use Rattle.refusal.specs.Checks.{check_from}
use Rattle.refusal.specs.Lines.{length_check, blocks_check, file_check, kind_check, count_check, size_check, must_be_zero, not_zero, filler_check}
use Rattle.refusal.proofs.Passed.{clash}
use Rattle.automaton.specs.File.{header_of, counts_check, sets_check, rules_check, layout_check, body_check, parsed}
use Rattle.automaton.specs.Payload.{payload_of}
use Rattle.automaton.specs.Rules.{sort_place, sort_move, rule_at, misplaced, rule_check}
use Rattle.automaton.specs.declared.Header.{Header}
use Rattle.transitions.specs.Transitions.{next_states, automaton_of}
use Rattle.tree.specs.File.{nodes_of, read_tree, layout_check as tree_layout, body_check as tree_body}
use Rattle.nodes.specs.Nodes.{tree_of, no_symbol, symbols_check, parts_from, shape_check, forest, depth_of, height_check, nodes_check}
use Rattle.tree.specs.Payload.{payload_of as nodes_payload}
use Rattle.nodes.specs.Preorder.{Writes}
use Rattle.tree.proofs.Reading.{tree-read}
use Rattle.membership.specs.Judged.{signature_of, accepted_if, judged_by, judged}
use Rattle.membership.specs.Demand2.{Judges}
use Rattle.membership.proofs.Proved.{judged-right}
use Rattle.membership.specs.declared.Answer.{Answer}
use Rattle.emptiness.specs.Surveyed.{plan_bytes, survey_of, written, buffer_check, answered, surveyed_by, surveyed}
use Rattle.emptiness.specs.Checked.{clear_or, checked}
use Rattle.emptiness.proofs.Proved.{surveyed-right, checked-right}
use Rattle.emptiness.specs.declared.Survey.{Survey}
use Rattle.emptiness.specs.declared.Quick.{Quick}
use Rattle.emptiness.proofs.Planning.{bytes-length}
use Rattle.board.specs.Files.{walker, rules_a, file_a, file_a+, file_i, file_j, letter}
use Rattle.board.specs.Board.{Row, judges, surveys, seals, rows, planned, JudgesRight, SurveysRight, Right}
use Rattle.refusal.specs.declared.Refusal.{Refusal}

-- ---- what is computed of a row's files

data Seen : Type 0 where
  refused : Seen
  judged-as : Tree → Bool → Seen
  surveyed-as : Survey → (plan : List ℕ) → Quick → Seen
  sealed-as : (computed stored : ℕ) → Seen

-- the tree that is read, and whether it is accepted
letter_seen : (h : Header) → Result ℕ Refusal → (w s : List ℕ) → Seen
letter_seen h (Err r) w s = refused
letter_seen h (Ok k) w s =
    let t = tree_of h.branches (nodes_of k (content s)) in
    judged-as t (accepts? (automaton_of h (content w)) t)

judging_seen : Result Header Refusal → (w s : List ℕ) → Seen
judging_seen (Err r) w s = refused
judging_seen (Ok h) w s = letter_seen h (read_tree (signature_of (automaton_of h (content w))) s) w s

plan_of : Verdict → List ℕ
plan_of (Found h p) = plan_bytes p
plan_of (Open h) = []
plan_of (Empty h) = []

survey_seen : Result Header Refusal → (w : List ℕ) → Seen
survey_seen (Err r) w = refused
survey_seen (Ok h) w =
    let A = automaton_of h (content w) in
    surveyed-as (survey_of (saturation_of A)) (plan_of (saturation_of A)) (clear_or (clear? A))

seen : Row → Seen
seen (judges w symbols t b) = judging_seen (parsed w) w (letter symbols)
seen (surveys w answer plan quick) = survey_seen (parsed w) w
seen (seals symbols check) = sealed-as (block_check (letter symbols) 0) (word_at (letter symbols) 508)

-- and what the row says
said : Row → Seen
said (judges w symbols t b) = judged-as t b
said (surveys w answer plan quick) = surveyed-as answer plan quick
said (seals symbols check) = sealed-as check check

-- ---- a judged tree

judging-read : (p : Result Header Refusal) (w s : List ℕ) (t : Tree) (b : Bool) → judging_seen p w s ≡ judged-as t b
    → (h : Header) × (p ≡ Ok h) × (letter_seen h (read_tree (signature_of (automaton_of h (content w))) s) w s ≡ judged-as t b)
unfolding judging_seen
judging-read (Err r) w s t b e = clash (cc)
judging-read (Ok h) w s t b e = (h, refl, e)

letter-nodes : (h : Header) (p : Result ℕ Refusal) (w s : List ℕ) (t : Tree) (b : Bool) → letter_seen h p w s ≡ judged-as t b
    → (k : ℕ) × (p ≡ Ok k) × (tree_of h.branches (nodes_of k (content s)) ≡ t) × (accepts? (automaton_of h (content w)) t ≡ b)
unfolding letter_seen
letter-nodes h (Err r) w s t b e = clash (cc)
letter-nodes h (Ok k) w s t b e =
    let u = tree_of h.branches (nodes_of k (content s)) in
    let same : u ≡ t = cc in
    let answer : accepts? (automaton_of h (content w)) u ≡ b = cc in
    (k, refl, same, rw same at answer)

answer-is : (w s : List ℕ) (h : Header) (k : ℕ) (t : Tree) (b : Bool) → parsed w ≡ Ok h → read_tree (signature_of (automaton_of h (content w))) s ≡ Ok k
    → tree_of h.branches (nodes_of k (content s)) ≡ t → accepts? (automaton_of h (content w)) t ≡ b → judged w s ≡ Ok (accepted_if b)
unfolding judged judged_by
answer-is w s h k t b read letter_read same accepted = rw (read, letter_read, same, accepted)

-- the two answers are the two sides of a test
told-run : (b : Bool) (a : Result Answer Refusal) {X : Type 0} → a ≡ Ok (accepted_if b) → (a ≡ Ok Answer.Accepted) ↔ X → X ↔ T b
told-run true a e f = (λ x. tt, λ t. f.0 e)
told-run false a e f = (λ x. let z : a ≡ Ok Answer.Accepted = f.1 x in clash (cc), λ t. absurd t)

-- a run of the one tree that a list writes
run_is : (A : Automaton) (nodes : List ℕ) (t : Tree) (b : Bool) (a : Result Answer Refusal)
    → Judges A nodes a → Writes (signature_of A) nodes t → a ≡ Ok (accepted_if b) → Accepted A t ↔ T b
run_is A nodes t b a right written e = rw (right.one t written) (told-run b a e right.accepted)

judges-right : (w s : List ℕ) (t : Tree) (b : Bool) → judging_seen (parsed w) w s ≡ judged-as t b → JudgesRight w s t b
judges-right w s t b e =
    let first = judging-read (parsed w) w s t b e in
    let h = first.0 in
    let sg = signature_of (automaton_of h (content w)) in
    let second = letter-nodes h (read_tree sg s) w s t b first.2 in
    let k = second.0 in
    let answer = answer-is w s h k t b first.1 second.1 second.2 second.3 in
    let written : Writes sg (nodes_of k (content s)) t = rw second.2 at (tree-read sg s k second.1).tree in
    record {
      header = h;
      read = first.1;
      nodes = k;
      letter_read = second.1;
      writes = written;
      answer = answer;
      run = run_is _ _ t b (judged w s) (judged-right w s h k first.1 second.1) written answer;
    }

-- ---- a survey and a quick check

plan-written : (v : Verdict) (buffer : List ℕ) → written v buffer ≡ plan_of v ++ drop (length (plan_of v)) buffer
unfolding plan_of
plan-written (Found h p) buffer = ap (λ (n : ℕ). plan_bytes p ++ drop n buffer) (sym (bytes-length p))
plan-written (Open h) buffer = refl
plan-written (Empty h) buffer = refl

survey-read : (p : Result Header Refusal) (w : List ℕ) (answer : Survey) (plan : List ℕ) (quick : Quick) → survey_seen p w ≡ surveyed-as answer plan quick
    → (h : Header) × (p ≡ Ok h) × (survey_of (saturation_of (automaton_of h (content w))) ≡ answer)
    × (plan_of (saturation_of (automaton_of h (content w))) ≡ plan) × (clear_or (clear? (automaton_of h (content w))) ≡ quick)
unfolding survey_seen
survey-read (Err r) w answer plan quick e = clash (cc)
survey-read (Ok h) w answer plan quick e = (h, refl, (cc), (cc), (cc))

survey-as : (w : List ℕ) (h : Header) → parsed w ≡ Ok h → (buffer : List ℕ) → 195 ≤ length buffer
    → surveyed w buffer ≡ planned (survey_of (saturation_of (automaton_of h (content w)))) (plan_of (saturation_of (automaton_of h (content w)))) buffer
unfolding surveyed surveyed_by buffer_check
survey-as w h read buffer long =
    let v = saturation_of (automaton_of h (content w)) in
    rw (read, le-ltb (length buffer) 195 long) (ap (answered (Ok (survey_of v))) (plan-written v buffer))

quick-as : (w : List ℕ) (h : Header) → parsed w ≡ Ok h → checked w ≡ Ok (clear_or (clear? (automaton_of h (content w))))
unfolding checked
quick-as w h read = rw read refl

surveys-right : (w : List ℕ) (answer : Survey) (plan : List ℕ) (quick : Quick) → survey_seen (parsed w) w ≡ surveyed-as answer plan quick
    → SurveysRight w answer plan quick
surveys-right w answer plan quick e =
    let f = survey-read (parsed w) w answer plan quick e in
    let h = f.0 in
    let survey : (buffer : List ℕ) → 195 ≤ length buffer → surveyed w buffer ≡ planned answer plan buffer =
    λ buffer long. rw (f.2, f.3) at (survey-as w h f.1 buffer long) in
    let check : checked w ≡ Ok quick = quick-as w h f.1 ∙ ap Ok f.4 in
    record {
      header = h;
      read = f.1;
      survey_is = survey;
      quick_is = check;
      survey_right = λ buffer long. rw (survey buffer long) at (surveyed-right w buffer h f.1 long);
      quick_right = rw check at (checked-right w h f.1);
    }

-- ---- every row

row-right : (r : Row) → seen r ≡ said r → Right r
unfolding seen said
row-right (judges w symbols t b) e = judges-right w (letter symbols) t b e
row-right (surveys w answer plan quick) e = surveys-right w answer plan quick e
row-right (seals symbols check) e = record { check_is = (cc); stands = (cc) }

-- two functions that agree over a list agree on each of its elements
same_at : {A B : Type 0} (f g : A → B) (l : List A) → map f l ≡ map g l → (a : A) → a ∈ l → f a ≡ g a
same_at f g [] e a m = absurd (Memᴰ.not-nil m)
same_at f g (x ∷ l) e a (Memᴰ.head q) = let h : f x ≡ g x = cc in rw q h
same_at f g (x ∷ l) e a (Memᴰ.tail m) = let t : map f l ≡ map g l = cc in same_at f g l t a m

-- the computed test over the table
all_seen : map seen rows ≡ map said rows
unfolding rows seen said judging_seen letter_seen survey_seen plan_of file_a file_a+ file_i file_j letter walker rules_a file_of listed file_byte check_for word_bytes payload_of nodes_payload parsed file_check length_check blocks_check check_wrong block_check word_sum lowest_from content contents header_of layout_check kind_check counts_check count_check size_check body_check filler_check not_zero must_be_zero sets_check rules_check check_from rule_check rule_at sort_place sort_move misplaced member read_tree tree_layout tree_body nodes_check symbols_check no_symbol parts_from shape_check forest tree_of depth_of height_check accepts? loops overloops saturation rounds after round conclude settle absorb keep_if_new known first_accepted first_if candidates node_candidates node_candidate class_at leaf_candidate count_from flat_map clear? root_side least_parts settled formed formed_side leaf_side union node_overloops leaf_overloops up_closure node_loops leaf_loops moves next_states
all_seen = refl

-- (a) to (k)
pub board-right : (r : Row) → r ∈ rows → Right r
board-right r m = row-right r (same_at seen said rows all_seen r m)
