-- The report on an automaton's file and trees' files (document 01, "Tally and report"), as a list of bytes: the lines of the crate `wording`, of what
-- is told of the file and of the batch.
-- Interface: `head_of`, `report_of`.
use Rattle.std.specs.Prelude.{List, ◌++◌, ℕ, Result, Ok}
use Rattle.algorithms.specs.Saturate.{saturation_of}
use Rattle.automaton.specs.File.{read_automaton}
use Rattle.automaton.specs.declared.Header.{Header}
use Rattle.transitions.specs.Transitions.{automaton_of}
use Rattle.transitions.specs.Spread.{spread_rules}
use Rattle.determinism.specs.Single.{single, single_if}
use Rattle.determinism.specs.declared.Singleness.{Singleness}
use Rattle.emptiness.specs.Surveyed.{survey_of}
use Rattle.emptiness.specs.Checked.{checked_by}
use Rattle.emptiness.specs.declared.Survey.{Survey}
use Rattle.emptiness.specs.declared.Quick.{Quick}
use Rattle.tally.specs.declared.Tally.{Tally}
use Rattle.batch.specs.Batch.{nothing_counted, batch_of}
use Rattle.wording.specs.ReportLines.{refused_line, head_text, tally_line}
use Rattle.refusal.specs.declared.Refusal.{Refusal}

-- ---- what is told of an automaton's file that reads with the header h and the joined contents p

abbrev pub single_told : Header → (p : List ℕ) → Singleness
single_told h p = single_if (single (spread_rules h p))

abbrev pub quick_told : Header → (p : List ℕ) → Quick
quick_told h p = checked_by (automaton_of h p)

abbrev pub survey_told : Header → (p : List ℕ) → Result Survey Refusal
survey_told h p = Ok (survey_of (saturation_of (automaton_of h p)))

unfoldable pub head_of : Header → (p : List ℕ) → List ℕ
head_of h p = head_text h (Ok (single_told h p)) (Ok (quick_told h p)) (survey_told h p)

-- with a tally
abbrev pub read_text : Header → (p : List ℕ) → Tally → List ℕ
read_text h p t = head_of h p ++ tally_line t

-- ---- the report on an automaton's file w and trees' files end to end

unfoldable pub report_of : (w trees : List ℕ) → List ℕ
report_of w trees = read_automaton w refused_line (λ h p. read_text h p (batch_of (automaton_of h p) nothing_counted trees))
