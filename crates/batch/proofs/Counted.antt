-- The tally of a batch is its answers, each counted in turn; and so it is of a part of it.
-- Assumes nothing.
use Rattle.std.proofs.Common.{Result, Ok, Err}
use Prim.Native.Nat.{ℕ, zero, suc, ◌*◌, ◌<◌}
use native.Mathlib.Omega.{arith}
use mathlib.Core.Path.{◌≡◌, refl, sym, ap, ◌∙◌}
use mathlib.Core.Bool.{Bool, true, false, not, ◌||◌, ◌&&◌, cond}
use mathlib.Core.List.{List, [], ◌∷◌, ◌++◌}
use native.Mathlib.Decide.{dec_lt}
use borrow.Author.Tests.{ltb-true, eq-eqb, lt-ltb}
use lib.Dec.{eqb, ltb}
use lib.ListN.{length, take, drop, length-drop}
use lib.Seq.{take_at, take_all}
use Rattle.refusal.specs.declared.Refusal.{Refusal}
use Rattle.algorithms.specs.Automaton.{Automaton}
use Rattle.tree.specs.File.{read_tree}
use Rattle.membership.specs.Judged.{signature_of, answer_of, judged_by}
use Rattle.membership.specs.declared.Answer.{Answer}
use Rattle.tally.specs.Tally.{limit_check, counted_up}
use Rattle.tally.specs.declared.Tally.{Tally}
use Rattle.tally.specs.declared.Outcome.{Outcome}
use Rattle.counting.specs.Counting.{counted_all}
use Rattle.batch.specs.Batch.{first_length, rest_of, rest_counted, outcome_of, ends_batch, turn_by, turn_of, passes, taken, next_in, going_on, batch_of}
use Rattle.batch.specs.Answers.{answers_by, first_answer, last_answer, answers_of, counted_answers, all_numbers, later_if, Part}
use Rattle.batch.specs.declared.part.Judged.{Judged}
use Rattle.batch.proofs.Laws.{some_block, batch-next}
use Rattle.batch.proofs.Lengths.{file-length}
use Rattle.batch.proofs.Answering.{answers_next}
use Rattle.batch.proofs.Parts.{numbers-length}
use Rattle.refusal.specs.Checks.{Check}

-- a file that stops is refused
cut-refused : (A : Automaton) (s : List ℕ) → length s < first_length s → outcome_of (first_answer A s) ≡ Outcome.Refused
unfolding judged_by
cut-refused A s l = rw (take_all (first_length s) s (omega arith)) (by (read_tree (signature_of A) s) refl)
  where
    by : (r : Result ℕ Refusal) → read_tree (signature_of A) s ≡ r → outcome_of (answer_of A r s) ≡ Outcome.Refused
    by (Ok k) e = absurd (omega (arith, file-length (signature_of A) s k e))
    by (Err x) e = refl

-- a full tally stays
full-one : (t : Tally) (r : Refusal) (o : Outcome) → limit_check t ≡ Err r → (counted_up t o).tally ≡ t
unfolding counted_up
full-one t r o e = rw e refl

full-stays : (t : Tally) (r : Refusal) (l : List (Result Answer Refusal)) → limit_check t ≡ Err r → counted_answers t l ≡ t
full-stays t r [] e = refl
full-stays t r (a ∷ l) e = ap (λ (u : Tally). counted_answers u l) (full-one t r (outcome_of a) e) ∙ full-stays t r l e

passed-check : (t : Tally) (o : Outcome) → limit_check t ≡ Ok tt → passes (counted_up t o).check ≡ true
unfolding counted_up
passed-check t o e = rw e refl

full-check : (t : Tally) (r : Refusal) (o : Outcome) → limit_check t ≡ Err r → passes (counted_up t o).check ≡ false
unfolding counted_up
full-check t r o e = rw e refl

and_none : (b : Bool) → (b && false) ≡ false
and_none true = refl
and_none false = refl

and-all : (b : Bool) → (b && true) ≡ b
and-all true = refl
and-all false = refl

-- one file, by what its turn is
module _ (A : Automaton) (rest : List ℕ) (later : (t : Tally) → batch_of A t rest ≡ counted_answers t (answers_of A rest)) where
  abbrev t₁ : Tally → Outcome → Tally
  t₁ t o = (counted_up t o).tally

  going : (t : Tally) (a : Result Answer Refusal) (c : Check) → limit_check t ≡ c
      → cond (passes (counted_up t (outcome_of a)).check) (batch_of A (t₁ t (outcome_of a)) rest) (t₁ t (outcome_of a)) ≡ counted_answers (t₁ t (outcome_of a)) (answers_of A rest)
  going t a (Ok tt) e = rw (passed-check t (outcome_of a) e) (later (t₁ t (outcome_of a)))
  going t a (Err r) e =
      rw (full-check t r (outcome_of a) e, full-one t r (outcome_of a) e) (sym (full-stays t r (answers_of A rest) e))

  by-ends : (t : Tally) (a : Result Answer Refusal) (b : Bool)
      → cond (passes (counted_up t (outcome_of a)).check && not b) (batch_of A (t₁ t (outcome_of a)) rest) (t₁ t (outcome_of a))
      ≡ counted_answers t (answers_by false b a (answers_of A rest))
  by-ends t a true = rw (and_none (passes (counted_up t (outcome_of a)).check)) refl
  by-ends t a false = rw (and-all (passes (counted_up t (outcome_of a)).check)) (going t a (limit_check t) refl)

  by_turn : (t : Tally) (none stops : Bool) (a : Result Answer Refusal) → (none ≡ false → stops ≡ true → outcome_of a ≡ Outcome.Refused)
      → going_on (taken t (turn_by none stops a)) (batch_of A (taken t (turn_by none stops a)).tally rest)
      ≡ counted_answers t (answers_by none (stops || ends_batch a) a (answers_of A rest))
  by_turn t true stops a f = refl
  by_turn t false true a f =
      ap (λ (b : Bool). cond b (batch_of A (t₁ t Outcome.Refused) rest) (t₁ t Outcome.Refused)) (and_none (passes (counted_up t Outcome.Refused).check))
      ∙ ap (t₁ t) (sym (f refl refl))
  by_turn t false false a f = by-ends t a (ends_batch a)

-- no input, no answer: what is left of it counts for nothing
by-none : (t : Tally) (none stops : Bool) (a : Result Answer Refusal) (x : Tally) (l : List (Result Answer Refusal)) → none ≡ true
    → going_on (taken t (turn_by none stops a)) x ≡ counted_answers t (answers_by none (stops || ends_batch a) a l)
by-none t none stops a x l e = rw e refl

step : (A : Automaton) (t : Tally) (s : List ℕ) → ((t : Tally) → batch_of A t (rest_of s) ≡ counted_answers t (answers_of A (rest_of s)))
    → batch_of A t s ≡ counted_answers t (answers_of A s)
unfolding next_in turn_of
step A t s later =
    batch-next A t s
    ∙ by_turn A (rest_of s) later t (eqb (length s) 0) (ltb (length s) (first_length s)) (first_answer A s) (λ e f. cut-refused A s (ltb-true _ _ f))
    ∙ ap (counted_answers t) (sym (answers_next A s))

empty : (A : Automaton) (t : Tally) (s : List ℕ) → length s ≡ 0 → batch_of A t s ≡ counted_answers t (answers_of A s)
unfolding next_in turn_of
empty A t s e =
    batch-next A t s
    ∙ by-none t (eqb (length s) 0) (ltb (length s) (first_length s)) (first_answer A s) _ (answers_of A (rest_of s)) (eq-eqb (length s) 0 e)
    ∙ ap (counted_answers t) (sym (answers_next A s))

within : (n : ℕ) (A : Automaton) (t : Tally) (s : List ℕ) → length s < n → batch_of A t s ≡ counted_answers t (answers_of A s)
within zero A t s l = absurd (omega arith)
within (suc n) A t s l = by (dec_lt 0 (length s)) (λ u shorter. within n A u (rest_of s) shorter)
  where
    by : Dec (0 < length s) → ((u : Tally) → length (rest_of s) < n → batch_of A u (rest_of s) ≡ counted_answers u (answers_of A (rest_of s)))
        → batch_of A t s ≡ counted_answers t (answers_of A s)
    by (yes some) later = step A t s (λ u. later u (simp length-drop (omega (arith, some_block (take 512 s)))))
    by (no none) later = empty A t s (omega arith)

-- THE TALLY OF A BATCH is its answers, each counted in turn
pub batch-answers : (A : Automaton) (t : Tally) (s : List ℕ) → batch_of A t s ≡ counted_answers t (answers_of A s)
batch-answers A t s = within (suc (length s)) A t s (omega arith)

-- ---- of a part

counted-append : (t : Tally) (l r : List (Result Answer Refusal)) → counted_answers t (l ++ r) ≡ counted_answers (counted_answers t l) r
counted-append t [] r = refl
counted-append t (a ∷ l) r = counted-append (counted_up t (outcome_of a)).tally l r

-- answers that are written count as they do
counted-numbers : (t : Tally) (l : List (Result Answer Refusal)) → counted_all t (all_numbers l) ≡ counted_answers t l
unfolding counted_all
counted-numbers t [] = refl
counted-numbers t ((Ok Answer.Accepted) ∷ l) = counted-numbers (counted_up t Outcome.Accepted).tally l
counted-numbers t ((Ok Answer.Other) ∷ l) = counted-numbers (counted_up t Outcome.Other).tally l
counted-numbers t (Err r ∷ l) = counted-numbers (counted_up t Outcome.Refused).tally l

-- the batch after a part: of what was not judged, where it goes on
abbrev pub gone_on : Automaton → (more : Bool) → Tally → (s : List ℕ) → Tally
gone_on A true t s = batch_of A t s
gone_on A false t s = t

gone : (A : Automaton) (more : Bool) (t : Tally) (s : List ℕ) → counted_answers t (later_if more (answers_of A s)) ≡ gone_on A more t s
gone A true t s = sym (batch-answers A t s)
gone A false t s = refl

pub part-counted : (A : Automaton) (s lent lent' : List ℕ) (r : Judged) → Part A s lent lent' r → (t : Tally) (rest : List ℕ)
    → batch_of A t (s ++ rest) ≡ gone_on A r.more (counted_all t (take (3 * r.files) lent')) (drop r.bytes s ++ rest)
part-counted A s lent lent' r p t rest =
    let front : take (3 * r.files) lent' ≡ all_numbers p.answers =
    ap (take (3 * r.files)) p.written
    ∙ take_at (all_numbers p.answers) (drop (3 * r.files) lent) (3 * r.files) (omega (arith, numbers-length p.answers, p.count)) in
    batch-answers A t (s ++ rest) ∙ ap (counted_answers t) (p.all rest)
    ∙ counted-append t p.answers (later_if r.more (answers_of A (drop r.bytes s ++ rest)))
    ∙ gone A r.more (counted_answers t p.answers) (drop r.bytes s ++ rest)
    ∙ ap (λ (u : Tally). gone_on A r.more u (drop r.bytes s ++ rest)) (sym (ap (counted_all t) front ∙ counted-numbers t p.answers))

-- less than a file
pub batch-rest : (A : Automaton) (t : Tally) (s : List ℕ) → length s < first_length s → batch_of A t s ≡ rest_counted t (length s)
batch-rest A t s l = batch-answers A t s ∙ ap (counted_answers t) (answers_next A s) ∙ by (eqb (length s) 0)
  where
    by : (b : Bool) → counted_answers t (answers_by b (last_answer A s) (first_answer A s) (answers_of A (rest_of s))) ≡ cond b t (counted_up t Outcome.Refused).tally
    by true = refl
    by false = rw (lt-ltb (length s) (first_length s) l) (ap (λ (o : Outcome). (counted_up t o).tally) (cut-refused A s l))
