-- The answers of a batch, file by file; the tally of a batch is these, each counted in turn (`Counted.batch-answers`). And how they are written,
-- three numbers each, with the sums of growths.
-- Interface: `answers_of`, `counted_answers`, `answer_numbers`, `all_numbers`, `after_files`, `growths_after`, `Part`, `Stopped`.
use Rattle.std.specs.Prelude.{ℕ, zero, suc, ◌+◌, ◌*◌, ◌<◌, ◌≡◌, Bool, true, false, ◌||◌, List, [], ◌∷◌, ◌++◌, ◌⊎◌, eqb, ltb, length, take, drop, Result, Ok, Err}
use Rattle.algorithms.specs.Automaton.{Automaton}
use Rattle.membership.specs.Judged.{judged_by}
use Rattle.membership.specs.Grown.{growth_by}
use Rattle.membership.specs.declared.Answer.{Answer}
use Rattle.tally.specs.Tally.{counted_up}
use Rattle.tally.specs.declared.Tally.{Tally}
use Rattle.batch.specs.Batch.{first_length, rest_of, outcome_of, ends_batch}
use Rattle.batch.specs.declared.part.Judged.{Judged}
use Rattle.refusal.specs.declared.Refusal.{Refusal}

-- no input is left; or the file is the last; or there are more
abbrev pub answers_by : (none last : Bool) → Result Answer Refusal → (later : List (Result Answer Refusal)) → List (Result Answer Refusal)
answers_by true last a later = []
answers_by false true a later = a ∷ []
answers_by false false a later = a ∷ later

-- the answer to the file that stands first in s; "input that stops inside a letter" is judged as far as it goes, and refused
abbrev pub first_answer : Automaton → (s : List ℕ) → Result Answer Refusal
first_answer A s = judged_by A (take (first_length s) s)

-- it is the last one: "refusal 1 to 4, or input that stops inside a letter .. ends the batch"
abbrev pub last_answer : Automaton → (s : List ℕ) → Bool
last_answer A s = ltb (length s) (first_length s) || ends_batch (first_answer A s)

-- the answers to at most so many files
unfoldable pub answers_within : (files : ℕ) → Automaton → (s : List ℕ) → List (Result Answer Refusal)
answers_within zero A s = []
answers_within (suc n) A s = answers_by (eqb (length s) 0) (last_answer A s) (first_answer A s) (answers_within n A (rest_of s))

-- to all, no file being shorter than a byte
unfoldable pub answers_of : Automaton → (s : List ℕ) → List (Result Answer Refusal)
answers_of A s = answers_within (suc (length s)) A s

-- each counted in turn
abbrev pub counted_answers : Tally → List (Result Answer Refusal) → Tally
counted_answers t [] = t
counted_answers t (a ∷ l) = counted_answers (counted_up t (outcome_of a)).tally l

-- ---- written, three numbers each

-- 0 accepted, 1 other, 2 refused, with the refusal's number and place
abbrev pub answer_numbers : Result Answer Refusal → List ℕ
answer_numbers (Ok Answer.Accepted) = 0 ∷ 0 ∷ 0 ∷ []
answer_numbers (Ok Answer.Other) = 1 ∷ 0 ∷ 0 ∷ []
answer_numbers (Err r) = 2 ∷ r.number ∷ r.place ∷ []

abbrev pub all_numbers : List (Result Answer Refusal) → List ℕ
all_numbers [] = []
all_numbers (a ∷ l) = answer_numbers a ++ all_numbers l

-- ---- the sums of growths (document 02, W9), a number each

-- what follows so many files
unfoldable pub after_files : (files : ℕ) → (s : List ℕ) → List ℕ
after_files zero s = s
after_files (suc n) s = after_files n (rest_of s)

-- the sum of each of so many files in turn, as far as a lent slice has room; then what stood there
unfoldable pub growths_after : Automaton → (files : ℕ) → (s lent : List ℕ) → List ℕ
growths_after A zero s lent = lent
growths_after A (suc n) s [] = []
growths_after A (suc n) s (x ∷ lent) = growth_by A (take (first_length s) s) ∷ growths_after A n (rest_of s) lent

-- ---- some files of a batch

-- what follows the files that were judged, where the batch goes on
abbrev pub later_if : (more : Bool) → List (Result Answer Refusal) → List (Result Answer Refusal)
later_if true later = later
later_if false later = []

-- of the files at the front of s some were judged, and their answers written to the front of a lent slice. Whatever follows s: the answers to
-- all begin with these, and, where the batch goes on, the others are those to what was not judged and what follows
pub record Part (A : Automaton) (s lent lent' : List ℕ) (r : Judged) : Type 0 where
  pub answers : List (Result Answer Refusal)
  pub count : length answers ≡ r.files
  pub written : lent' ≡ all_numbers answers ++ drop (3 * r.files) lent
  pub all : (rest : List ℕ) → answers_of A (s ++ rest) ≡ answers ++ later_if r.more (answers_of A (drop r.bytes s ++ rest))

-- where the batch goes on: no whole file is left at the front, or no room for an answer
abbrev pub Stopped : (s lent : List ℕ) → Judged → Type 0
Stopped s lent r = (length (drop r.bytes s) < first_length (drop r.bytes s)) ⊎ (length lent < 3 * r.files + 3)
