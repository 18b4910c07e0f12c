-- What the survey of an automaton's file answers, and what it leaves in the lent plan buffer (document 01, Survey; line 13 of the table).
-- Interface: `plan_bytes`, `survey_of`, `written`, `buffer_check`, `Answered`, `answered`, `surveyed_by`, `surveyed`.
use Rattle.std.specs.Prelude.{List, [], ◌∷◌, ◌++◌, ℕ, ◌*◌, length, drop, ltb, Result, Ok, Err}
use Rattle.model.specs.Saturation.{WitnessRow, Verdict, Found, Open, Empty}
use Rattle.algorithms.specs.Automaton.{Automaton}
use Rattle.algorithms.specs.Saturate.{saturation_of}
use Rattle.refusal.specs.Checks.{refuse_if, Check}
use Rattle.refusal.specs.declared.Fault.{Fault}
use Rattle.transitions.specs.Transitions.{by_automaton}
use Rattle.emptiness.specs.declared.Survey.{Survey}
use Rattle.refusal.specs.declared.Refusal.{Refusal}

-- "Plan row: symbol, left row, right row, 255 255 for a leaf."
abbrev pub plan_bytes : List WitnessRow → List ℕ
plan_bytes [] = []
plan_bytes (r ∷ rows) = r.symbol ∷ r.left ∷ r.right ∷ plan_bytes rows

-- a verdict as it is told: its height, and the number of rows on Found.
abbrev pub survey_of : Verdict → Survey
survey_of (Found h p) = Survey.Found h (length p)
survey_of (Open h) = Survey.Open h
survey_of (Empty h) = Survey.Empty h

-- "Found writes the rows ..; later bytes, and the whole buffer on other verdicts, are unchanged."
abbrev pub written : Verdict → (buffer : List ℕ) → List ℕ
written (Found h p) buffer = plan_bytes p ++ drop (3 * length p) buffer
written (Open h) buffer = buffer
written (Empty h) buffer = buffer

-- 13: plan buffer under 195 bytes; at 195; file 2
unfoldable pub buffer_check : List ℕ → Check
buffer_check buffer = refuse_if (ltb (length buffer) 195) Fault.Buffer 2 195

-- an answer, and the buffer afterwards
pub record Answered : Type 0 where
  pub answer : Result Survey Refusal
  pub buffer : List ℕ

abbrev pub answered : Result Survey Refusal → List ℕ → Answered
answered answer buffer = record { answer = answer; buffer = buffer }

abbrev pub after_check : Check → Automaton → (buffer : List ℕ) → Answered
after_check (Err r) A buffer = answered (Err r) buffer
after_check (Ok _) A buffer = answered (Ok (survey_of (saturation_of A))) (written (saturation_of A) buffer)

-- the survey by an automaton, with a lent buffer
unfoldable pub surveyed_by : Automaton → (buffer : List ℕ) → Answered
surveyed_by A buffer = after_check (buffer_check buffer) A buffer

-- of an automaton's file w
unfoldable pub surveyed : (w buffer : List ℕ) → Answered
surveyed w buffer = by_automaton w (λ r. answered (Err r) buffer) (λ A. surveyed_by A buffer)
