-- The answer to each file is what judging answers of that file alone, and so is its sum.
-- Assumes nothing.
use Rattle.std.proofs.Common.{Result, Ok, Err}
use Prim.Native.Nat.{ℕ, zero, suc, ◌*◌, ◌/◌, ◌<◌}
use native.Mathlib.Omega.{arith}
use mathlib.Core.Path.{◌≡◌, refl, ap, ◌∙◌}
use mathlib.Core.Bool.{Bool, true, false}
use mathlib.Core.List.{List, [], ◌∷◌, ◌++◌}
use lib.Dec.{eqb}
use lib.ListN.{length, get_or, take, drop, length-take}
use Rattle.blocks.specs.Blocks.{content}
use Rattle.refusal.specs.declared.Refusal.{Refusal}
use Rattle.algorithms.specs.Automaton.{Automaton}
use Rattle.automaton.specs.File.{parsed}
use Rattle.automaton.specs.declared.Header.{Header}
use Rattle.transitions.specs.Transitions.{automaton_of}
use Rattle.membership.specs.Judged.{judged_by, judged}
use Rattle.membership.specs.Grown.{growth_by, growth_judged}
use Rattle.membership.specs.declared.Answer.{Answer}
use Rattle.batch.specs.Batch.{rest_of}
use Rattle.batch.specs.Answers.{answers_by, first_answer, last_answer, answers_of, answer_numbers, all_numbers, growths_after}
use Rattle.batch.proofs.Answering.{answers_next}
use Rattle.answers.specs.All.{answered, judged_all, file_in, Each}

-- the answer at a place of a list
pub data At : List (Result Answer Refusal) → ℕ → Result Answer Refusal → Type 0 where
  here : {l : List (Result Answer Refusal)} {a : Result Answer Refusal} → At (a ∷ l) zero a
  there : {l : List (Result Answer Refusal)} {k : ℕ} {a b : Result Answer Refusal} → At l k a → At (b ∷ l) (suc k) a

-- of the answers to some files
by_first : (none last : Bool) (a : Result Answer Refusal) (l : List (Result Answer Refusal)) → 0 < length (answers_by none last a l) → At (answers_by none last a l) zero a
by_first true last a l h = absurd (omega arith)
by_first false true a l h = here
by_first false false a l h = here

by-later : (none last : Bool) (a b : Result Answer Refusal) (l : List (Result Answer Refusal)) (k : ℕ) → suc k < length (answers_by none last a l) → (k < length l → At l k b)
    → At (answers_by none last a l) (suc k) b
by-later true last a b l k h f = absurd (omega arith)
by-later false true a b l k h f = absurd (omega arith)
by-later false false a b l k h f = there (f (omega arith))

answer_at : (k : ℕ) (A : Automaton) (s : List ℕ) → k < length (answers_of A s) → At (answers_of A s) k (judged_by A (file_in k s))
unfolding file_in
answer_at zero A s h =
    rw (answers_next A s) (by_first (eqb (length s) 0) (last_answer A s) (first_answer A s) (answers_of A (rest_of s)) (rw (answers_next A s) at h))
answer_at (suc k) A s h =
    rw (answers_next A s)
    (by-later (eqb (length s) 0) (last_answer A s) (first_answer A s) (judged_by A (file_in k (rest_of s))) (answers_of A (rest_of s)) k
    (rw (answers_next A s) at h) (λ l. answer_at k A (rest_of s) l))

-- of the first of them
within : {l : List (Result Answer Refusal)} {k : ℕ} {a : Result Answer Refusal} → At l k a → (m : ℕ) → k < m → At (take m l) k a
within here zero h = absurd (omega arith)
within here (suc m) h = here
within (there x) zero h = absurd (omega arith)
within (there x) (suc m) h = there (within x m (omega arith))

-- the numbers of an answer stand at three times its place
front : (a : Result Answer Refusal) (l : List (Result Answer Refusal)) (x : List ℕ) → take 3 (all_numbers (a ∷ l) ++ x) ≡ answer_numbers a
front (Ok Answer.Accepted) l x = refl
front (Ok Answer.Other) l x = refl
front (Err r) l x = refl

past : (a : Result Answer Refusal) (l : List (Result Answer Refusal)) (x : List ℕ) (n : ℕ) → drop (suc (suc (suc n))) (all_numbers (a ∷ l) ++ x) ≡ drop n (all_numbers l ++ x)
past (Ok Answer.Accepted) l x n = refl
past (Ok Answer.Other) l x n = refl
past (Err r) l x n = refl

numbers-at : {l : List (Result Answer Refusal)} {k : ℕ} {a : Result Answer Refusal} → At l k a → (x : List ℕ) → take 3 (drop (3 * k) (all_numbers l ++ x)) ≡ answer_numbers a
numbers-at (here {l} {a}) x = front a l x
numbers-at (there {l} {k} {a} {b} p) x =
    let three : 3 * suc k ≡ suc (suc (suc (3 * k))) = omega arith in
    rw three (ap (take 3) (past b l x (3 * k)) ∙ numbers-at p x)

-- the sum of a file stands at its place
sum-at : (A : Automaton) (n : ℕ) (s lent : List ℕ) (k : ℕ) → k < n → k < length (growths_after A n s lent) → get_or (growths_after A n s lent) k 0 ≡ growth_by A (file_in k s)
unfolding growths_after file_in
sum-at A zero s lent k l room = absurd (omega arith)
sum-at A (suc n) s [] k l room = absurd (omega arith)
sum-at A (suc n) s (x ∷ lent) zero l room = refl
sum-at A (suc n) s (x ∷ lent) (suc k) l room = sum-at A n (rest_of s) lent k (omega arith) (omega arith)

-- ---- over an automaton's file

abbrev count : Result ℕ Refusal → ℕ
count (Ok n) = suc n
count (Err x) = 0

each_read : (w s lent g : List ℕ) (h : Header) → parsed w ≡ Ok h → Each w s (judged_all w s lent g)
unfolding judged_all judged growth_judged answered
each_read w s lent g h e = rw e (λ n f k l.
    let few = length-take (length lent / 3) (answers_of (automaton_of h (content w)) s) in
    let size : suc (length (take (length lent / 3) (answers_of (automaton_of h (content w)) s))) ≡ suc n = ap count f in (
      numbers-at (within (answer_at k (automaton_of h (content w)) s (omega (arith, few, size))) (length lent / 3) (omega (arith, few, size))) _,
      λ room. sum-at (automaton_of h (content w)) (length (take (length lent / 3) (answers_of (automaton_of h (content w)) s))) s g k (omega (arith, size)) room,
    ))

each-refused : (w s lent g : List ℕ) (x : Refusal) → parsed w ≡ Err x → Each w s (judged_all w s lent g)
unfolding judged_all
each-refused w s lent g x e = rw e (λ n f k l. absurd (omega (arith, ap count f)))

-- EVERY ANSWER is what judging answers of its file alone, and so is every sum
pub each : (w s lent g : List ℕ) → Each w s (judged_all w s lent g)
each w s lent g = by (parsed w) refl
  where
    by : (r : Result Header Refusal) → parsed w ≡ r → Each w s (judged_all w s lent g)
    by (Ok h) e = each_read w s lent g h e
    by (Err x) e = each-refused w s lent g x e
