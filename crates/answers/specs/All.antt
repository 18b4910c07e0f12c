-- Judging many trees' files, end to end: the answers of a batch (document 01, "Tally and report"), file by file, three numbers each, and the sums of
-- growths (document 02, W9).
-- Interface: `answered`, `numbers_after`, `outcome`, `judged_all`, `file_in`, `Each`.
use Rattle.std.specs.Prelude.{ℕ, zero, suc, ◌*◌, ◌/◌, ◌<◌, ◌≡◌, List, ◌++◌, length, get_or, take, drop, Result, Ok, Err}
use Rattle.algorithms.specs.Automaton.{Automaton}
use Rattle.transitions.specs.Transitions.{by_automaton}
use Rattle.membership.specs.Judged.{judged}
use Rattle.membership.specs.Grown.{growth_judged}
use Rattle.membership.specs.declared.Answer.{Answer}
use Rattle.batch.specs.Batch.{first_length, rest_of}
use Rattle.batch.specs.Answers.{answers_of, answer_numbers, all_numbers, growths_after}
use Rattle.refusal.specs.declared.Refusal.{Refusal}

-- the answers that a lent slice has room for
unfoldable pub answered : Automaton → (s lent : List ℕ) → List (Result Answer Refusal)
answered A s lent = take (length lent / 3) (answers_of A s)

-- the slice afterwards: their numbers, and then what stood there
abbrev pub numbers_after : List (Result Answer Refusal) → (lent : List ℕ) → List ℕ
numbers_after l lent = all_numbers l ++ drop (3 * length l) lent

-- what is answered, and the two lent slices afterwards
pub record Outcome : Type 0 where
  pub judgement : Result ℕ Refusal
  pub numbers : List ℕ
  pub growths : List ℕ

abbrev pub outcome : Result ℕ Refusal → (numbers growths : List ℕ) → Outcome
outcome j l g = record { judgement = j; numbers = l; growths = g }

-- of an automaton's file w and trees' files s, with slices lent for the answers and for the sums; a refused automaton's file leaves these as they were
unfoldable pub judged_all : (w s lent growths : List ℕ) → Outcome
judged_all w s lent g =
    by_automaton w (λ r. outcome (Err r) lent g)
    (λ A.
    let n = length (answered A s lent) in
    outcome (Ok n) (numbers_after (answered A s lent) lent) (growths_after A n s g))

-- ---- file by file

-- file k of some files, end to end
unfoldable pub file_in : (k : ℕ) → (s : List ℕ) → List ℕ
file_in zero s = take (first_length s) s
file_in (suc k) s = file_in k (rest_of s)

-- the answer to each file that was judged is what judging answers of that file alone, and so is its sum, where there was room for it
abbrev pub Each : (w s : List ℕ) → Outcome → Type 0
Each w s o =
    (n : ℕ) → o.judgement ≡ Ok n → (k : ℕ) → k < n
    → (take 3 (drop (3 * k) o.numbers) ≡ answer_numbers (judged w (file_in k s)))
    × (k < length o.growths → get_or o.growths k 0 ≡ growth_judged w (file_in k s))
