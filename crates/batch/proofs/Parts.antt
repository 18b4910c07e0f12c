-- Answers written one after another: three numbers stored, and a file more.
-- Assumes nothing.
use Rattle.std.proofs.Common.{Result, Ok, Err}
use Prim.Native.Nat.{ℕ, suc, ◌+◌, ◌*◌, ◌≤◌}
use native.Mathlib.Omega.{arith}
use mathlib.Core.Path.{◌≡◌, refl, sym, ap, ◌∙◌}
use mathlib.Core.Bool.{Bool, true, not}
use mathlib.Core.List.{List, [], ◌∷◌, ◌++◌, append_assoc}
use lib.ListN.{length, get_or, set, take, drop, length-append, length-drop}
use lib.Seq.{sets, sets-eq, take_at, drop_at, drop-drop}
use Rattle.algorithms.specs.Automaton.{Automaton}
use Rattle.membership.specs.Judged.{judged_by}
use Rattle.membership.specs.declared.Answer.{Answer}
use Rattle.batch.specs.Batch.{first_length, rest_of, ends_batch}
use Rattle.batch.specs.Answers.{first_answer, answers_of, answer_numbers, all_numbers, later_if, Part}
use Rattle.batch.proofs.Answering.{answers-file}
use Rattle.refusal.specs.declared.Refusal.{Refusal}

-- three stores, one after another
pub put_three : (l : List ℕ) (at a b c : ℕ) → set (set (set l at a) (at + 1) b) (at + 2) c ≡ sets l at (a ∷ b ∷ c ∷ [])
put_three l at a b c =
    let one : at + 1 ≡ suc at = omega arith in
    let two : at + 2 ≡ suc (suc at) = omega arith in
    rw (one, two) refl

-- an answer's three numbers
pub numbers-each : (a : Result Answer Refusal) → get_or (answer_numbers a) 0 0 ∷ get_or (answer_numbers a) 1 0 ∷ get_or (answer_numbers a) 2 0 ∷ [] ≡ answer_numbers a
numbers-each (Ok Answer.Accepted) = refl
numbers-each (Ok Answer.Other) = refl
numbers-each (Err r) = refl

pub three-numbers : (a : Result Answer Refusal) → length (answer_numbers a) ≡ 3
three-numbers (Ok Answer.Accepted) = refl
three-numbers (Ok Answer.Other) = refl
three-numbers (Err r) = refl

pub numbers-length : (l : List (Result Answer Refusal)) → length (all_numbers l) ≡ 3 * length l
numbers-length [] = refl
numbers-length (a ∷ l) = length-append (answer_numbers a) (all_numbers l) ∙ omega (arith, three-numbers a, numbers-length l)

numbers_more : (l : List (Result Answer Refusal)) (a : Result Answer Refusal) → all_numbers (l ++ a ∷ []) ≡ all_numbers l ++ answer_numbers a
numbers_more [] (Ok Answer.Accepted) = refl
numbers_more [] (Ok Answer.Other) = refl
numbers_more [] (Err r) = refl
numbers_more (b ∷ l) a = ap (λ (x : List ℕ). answer_numbers b ++ x) (numbers_more l a) ∙ sym (append_assoc (answer_numbers b) (all_numbers l) (answer_numbers a))

-- stores that begin where a list ends
stored-after : (x y v : List ℕ) (n m : ℕ) → length x ≡ n → length v ≡ m → m ≤ length y → sets (x ++ y) n v ≡ (x ++ v) ++ drop m y
stored-after x y v n m e f room =
    let all : n + length v ≤ length (x ++ y) = omega (arith, length-append x y) in
    sets-eq v (x ++ y) n all
    ∙ rw (take_at x y n e, f, ← drop-drop m n (x ++ y), drop_at x y n e) refl

-- one answer more, behind the others
pub put-more : (l : List (Result Answer Refusal)) (a : Result Answer Refusal) (lent lent' lent'' : List ℕ) (files : ℕ) → length l ≡ files → 3 * files + 3 ≤ length lent
    → lent' ≡ all_numbers l ++ drop (3 * files) lent → lent'' ≡ sets lent' (3 * files) (answer_numbers a)
    → lent'' ≡ all_numbers (l ++ a ∷ []) ++ drop (3 * (files + 1)) lent
put-more l a lent lent' lent'' files count room written put =
    let left : 3 ≤ length (drop (3 * files) lent) = simp length-drop (omega arith) in
    let more : 3 * files + 3 ≡ 3 * (files + 1) = omega arith in
    put ∙ ap (λ (l : List ℕ). sets l (3 * files) (answer_numbers a)) written
    ∙ stored-after (all_numbers l) (drop (3 * files) lent) (answer_numbers a) (3 * files) 3 (omega (arith, numbers-length l, count)) (three-numbers a) left
    ∙ rw (numbers_more l a, ← more) (ap (λ (x : List ℕ). (all_numbers l ++ answer_numbers a) ++ x) (drop-drop 3 (3 * files) lent))

pub begun : (A : Automaton) (s lent : List ℕ) → Part A s lent lent (record { files = 0; bytes = 0; more = true })
begun A s lent = record { answers = []; count = refl; written = refl; all = λ rest. refl }

module _ (A : Automaton) (s lent lent' lent'' : List ℕ) (files at n : ℕ) (more more' : Bool)
    (p : Part A s lent lent' (record { files = files; bytes = at; more = more })) (on : more ≡ true) (is : n ≡ first_length (drop at s))
    (within : n ≤ length (drop at s)) (room : 3 * files + 3 ≤ length lent)
    (put : lent'' ≡ sets lent' (3 * files) (answer_numbers (judged_by A (take n (drop at s)))))
    (ends : more' ≡ not (ends_batch (judged_by A (take n (drop at s))))) where
  abbrev a : Result Answer Refusal
  a = judged_by A (take n (drop at s))

  whole : first_length (drop at s) ≤ length (drop at s)
  whole = omega (arith, is, within)

  first-is : first_answer A (drop at s) ≡ a
  first-is = ap (λ (m : ℕ). judged_by A (take m (drop at s))) (sym is)

  rest-is : rest_of (drop at s) ≡ drop (at + n) s
  rest-is = ap (λ (m : ℕ). drop m (drop at s)) (sym is) ∙ drop-drop n at s

  -- the answers to what follows
  later : (rest : List ℕ) → answers_of A (drop at s ++ rest) ≡ a ∷ later_if more' (answers_of A (drop (at + n) s ++ rest))
  later rest = answers-file A (drop at s) rest whole ∙ rw (first-is, rest-is, ends)

  pub onward : Part A s lent lent'' (record { files = files + 1; bytes = at + n; more = more' })
  onward = record {
    answers = p.answers ++ a ∷ [];
    count = length-append p.answers (a ∷ []) ∙ ap (λ (m : ℕ). m + 1) p.count;
    written = put-more p.answers a lent lent' lent'' files p.count room p.written put;
    all = λ rest.
        p.all rest ∙ rw on (ap (λ (x : List (Result Answer Refusal)). p.answers ++ x) (later rest)
        ∙ sym (append_assoc p.answers (a ∷ []) (later_if more' (answers_of A (drop (at + n) s ++ rest)))));
  }
