-- A batch (document 01, "Tally and report"): trees' files end to end, each counted, until the input or the batch ends. The quotations are of
-- that section. Interface: `file_blocks`, `first_length`, `turn_of`, `next_in`, `batch_of`, `nothing_counted`, `tallied_of`. `Answers` has the
-- same file by file.
use Rattle.std.specs.Prelude.{Bool, true, false, not, cond, ◌&&◌, List, ℕ, zero, suc, ◌+◌, ◌*◌, length, take, drop, eqb, ltb, leb, Result, Ok, Err}
use Rattle.blocks.specs.Blocks.{half_at}
use Rattle.refusal.specs.Lines.{blocks_needed}
use Rattle.transitions.specs.Transitions.{by_automaton}
use Rattle.algorithms.specs.Automaton.{Automaton}
use Rattle.membership.specs.Judged.{judged_by}
use Rattle.membership.specs.declared.Answer.{Answer}
use Rattle.tally.specs.Tally.{counted_up}
use Rattle.tally.specs.declared.Tally.{Tally}
use Rattle.tally.specs.declared.Tallied.{Tallied}
use Rattle.tally.specs.declared.Outcome.{Outcome}
use Rattle.refusal.specs.Checks.{Check}
use Rattle.refusal.specs.declared.Refusal.{Refusal}

-- ---- the length of a file

-- "A letter's first block gives its length": the fewest blocks that hold the header's four bytes and the nodes. Where there are too many
-- nodes, or no header, the first block is all that is looked at.
abbrev pub blocks_of : (few : Bool) → (nodes : ℕ) → ℕ
blocks_of true nodes = blocks_needed (4 + nodes)
blocks_of false nodes = 1

unfoldable pub file_blocks : List ℕ → ℕ
file_blocks first =
    let nodes = half_at first 2 in
    blocks_of (leb 4 (length first) && leb nodes 4096) nodes

-- of the file that stands first in s, in bytes
abbrev pub first_length : List ℕ → ℕ
first_length s = 512 * file_blocks (take 512 s)

-- ---- what the first file comes to

-- "accepted, other (judged, not accepted), refused"
abbrev pub outcome_of : Result Answer Refusal → Outcome
outcome_of (Ok Answer.Accepted) = Outcome.Accepted
outcome_of (Ok Answer.Other) = Outcome.Other
outcome_of (Err r) = Outcome.Refused

-- "refusal 1 to 4 .. ends the batch"
abbrev pub ends_batch : Result Answer Refusal → Bool
ends_batch (Ok Answer.Accepted) = false
ends_batch (Ok Answer.Other) = false
ends_batch (Err r) = leb r.number 4

-- what a batch has next: nothing, as there is no input left; or a file, by its outcome and whether the batch goes on after it
pub data Turn : Type 0 where
  End : Turn
  File : Outcome → Bool → Turn

-- a file that was judged: its outcome, and whether the batch goes on after it
abbrev pub judged_turn : Result Answer Refusal → Turn
judged_turn a = File (outcome_of a) (not (ends_batch a))

-- "input that stops inside a letter, counts one refused and ends the batch"
abbrev pub cut_off : Turn
cut_off = File Outcome.Refused false

-- no input is left; or it stops inside a file; or a whole file is there
abbrev pub turn_by : (none stops : Bool) → Result Answer Refusal → Turn
turn_by true stops a = End
turn_by false true a = cut_off
turn_by false false a = judged_turn a

-- what the first file of s comes to, by an automaton
unfoldable pub turn_of : Automaton → (s : List ℕ) → Turn
turn_of A s = turn_by (eqb (length s) 0) (ltb (length s) (first_length s)) (judged_by A (take (first_length s) s))

-- ---- the tally after it

-- the tally, and whether the batch goes on
pub record Next : Type 0 where
  pub tally : Tally
  pub more : Bool

-- "Refusal 14 ends it uncounted."
abbrev pub passes : Check → Bool
passes (Ok tt) = true
passes (Err r) = false

abbrev pub taken : Tally → Turn → Next
taken t End = record { tally = t; more = false }
taken t (File o more) = record { tally = (counted_up t o).tally; more = passes (counted_up t o).check && more }

unfoldable pub next_in : Automaton → Tally → (s : List ℕ) → Next
next_in A t s = taken t (turn_of A s)

-- what is left of the input, less than a file, adds
abbrev pub rest_counted : Tally → (left : ℕ) → Tally
rest_counted t left = cond (eqb left 0) t (counted_up t Outcome.Refused).tally

-- ---- the whole batch

-- what follows the first file
abbrev pub rest_of : List ℕ → List ℕ
rest_of s = drop (first_length s) s

-- where the batch goes on, what it comes to later
abbrev pub going_on : Next → (later : Tally) → Tally
going_on n later = cond n.more later n.tally

-- the tally of at most so many files
unfoldable pub batch_within : (files : ℕ) → Automaton → Tally → (s : List ℕ) → Tally
batch_within zero A t s = t
batch_within (suc n) A t s = going_on (next_in A t s) (batch_within n A (next_in A t s).tally (rest_of s))

-- "letters end to end": the tally of all, no file being shorter than a byte
unfoldable pub batch_of : Automaton → Tally → (s : List ℕ) → Tally
batch_of A t s = batch_within (suc (length s)) A t s

abbrev pub nothing_counted : Tally
nothing_counted = record { accepted = 0; other = 0; refused = 0 }

-- ---- over an automaton's file

-- the tally onto t, by an automaton's file w that reads; or t as it was, and the refusal
abbrev pub tallied : Tally → Check → Tallied
tallied t c = record { tally = t; check = c }

unfoldable pub tallied_of : (w trees : List ℕ) → Tally → Tallied
tallied_of w trees t = by_automaton w (λ r. tallied t (Err r)) (λ A. tallied (batch_of A t trees) (Ok tt))
