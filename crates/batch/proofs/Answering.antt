-- The answers of a batch: one file more; and the tally of a batch is its answers, each counted in turn.
-- Assumes nothing.
use Rattle.std.proofs.Common.{Result}
use Prim.Native.Nat.{ℕ, zero, suc, ◌*◌, ◌<◌, ◌≤◌}
use native.Mathlib.Omega.{arith}
use mathlib.Core.Path.{◌≡◌, refl, ap, ◌∙◌}
use mathlib.Core.Bool.{Bool, true, false, not, ◌||◌}
use mathlib.Core.List.{List, ◌∷◌, ◌++◌}
use borrow.Author.Tests.{ne_eqb, le-ltb, ltb-false}
use lib.Dec.{eqb, ltb}
use lib.ListN.{length, take, drop, length-append}
use lib.Seq.{take-append-le, drop-append-le}
use Rattle.algorithms.specs.Automaton.{Automaton}
use Rattle.membership.specs.declared.Answer.{Answer}
use Rattle.batch.specs.Batch.{file_blocks, first_length, rest_of, ends_batch}
use Rattle.batch.specs.Answers.{answers_by, first_answer, last_answer, answers_within, answers_of, later_if}
use Rattle.batch.proofs.Laws.{some_block, rest-shorter}
use Rattle.refusal.specs.declared.Refusal.{Refusal}

-- what comes later counts only where there are more
by-more : (none last : Bool) (a : Result Answer Refusal) (x y : List (Result Answer Refusal)) → (none ≡ false → last ≡ false → x ≡ y) → answers_by none last a x ≡ answers_by none last a y
by-more true last a x y f = refl
by-more false true a x y f = refl
by-more false false a x y f = ap (λ (l : List (Result Answer Refusal)). a ∷ l) (f refl refl)

or-none : (a b : Bool) → (a || b) ≡ false → a ≡ false
or-none true b e = e
or-none false b e = refl

whole_by : (A : Automaton) (s : List ℕ) → last_answer A s ≡ false → first_length s ≤ length s
whole_by A s e = ltb-false _ _ (or-none (ltb (length s) (first_length s)) (ends_batch (first_answer A s)) e)

enough : (n m : ℕ) (A : Automaton) (s : List ℕ) → length s < n → length s < m → answers_within n A s ≡ answers_within m A s
unfolding answers_within
enough zero m A s l k = absurd (omega arith)
enough (suc n) zero A s l k = absurd (omega arith)
enough (suc n) (suc m) A s l k =
    by-more (eqb (length s) 0) (last_answer A s) (first_answer A s) _ _
    (λ e f. let shorter = rest-shorter s (whole_by A s f) in enough n m A (rest_of s) (omega arith) (omega arith))

pub answers_next : (A : Automaton) (s : List ℕ) → answers_of A s ≡ answers_by (eqb (length s) 0) (last_answer A s) (first_answer A s) (answers_of A (rest_of s))
unfolding answers_within answers_of
answers_next A s =
    by-more (eqb (length s) 0) (last_answer A s) (first_answer A s) _ _
    (λ e f. let shorter = rest-shorter s (whole_by A s f) in enough (length s) (suc (length (rest_of s))) A (rest_of s) (omega arith) (omega arith))

-- ---- a whole file at the front

module _ (A : Automaton) (s rest : List ℕ) (whole : first_length s ≤ length s) where
  long : 512 ≤ length s
  long = omega (arith, some_block (take 512 s), whole)

  same_length : first_length (s ++ rest) ≡ first_length s
  same_length = ap (λ (l : List ℕ). 512 * file_blocks l) (take-append-le 512 s rest long)

  same_first : take (first_length (s ++ rest)) (s ++ rest) ≡ take (first_length s) s
  same_first = ap (λ (n : ℕ). take n (s ++ rest)) same_length ∙ take-append-le (first_length s) s rest whole

  same_rest : rest_of (s ++ rest) ≡ rest_of s ++ rest
  same_rest = ap (λ (n : ℕ). drop n (s ++ rest)) same_length ∙ drop-append-le (first_length s) s rest whole

  by-ends : (b : Bool) (a : Result Answer Refusal) (l : List (Result Answer Refusal)) → answers_by false b a l ≡ a ∷ later_if (not b) l
  by-ends true a l = refl
  by-ends false a l = refl

  pub answers-file : answers_of A (s ++ rest) ≡ first_answer A s ∷ later_if (not (ends_batch (first_answer A s))) (answers_of A (rest_of s ++ rest))
  answers-file =
      let some : length (s ++ rest) ≡ 0 → ⊥ = λ e. omega (arith, length-append s rest, long) in
      let room : first_length (s ++ rest) ≤ length (s ++ rest) = omega (arith, length-append s rest, same_length, whole) in
      answers_next A (s ++ rest)
      ∙ rw (ne_eqb (length (s ++ rest)) 0 some, le-ltb (length (s ++ rest)) (first_length (s ++ rest)) room, same_first, same_rest)
      (by-ends (ends_batch (first_answer A s)) (first_answer A s) (answers_of A (rest_of s ++ rest)))
