-- Demand 3, of the survey's answer to an automaton's file and a plan buffer, and of the buffer afterwards; and of the quick check's answer.
-- Definitions only, of trees, runs and counts; the plan is document 01's survey's. The quotations are of demand 3.
-- Interface: `Surveys`, `Demand3`, `Approximates`, `Demand3Quick`.
use Rattle.std.specs.Prelude.{◌≡◌, ◌↔◌, List, ◌++◌, ℕ, suc, ◌*◌, ◌≤◌, length, drop, Result, Ok, Err}
use Rattle.model.specs.Trees.{Tree}
use Rattle.model.specs.Counting.{Over, Counts, FoundAt, OpenAt, EmptyAt}
use Rattle.model.specs.Saturation.{WitnessRow, Found}
use Rattle.model.specs.Demand.{WitnessFor}
use Rattle.model.specs.Approximation.{Sets, Top, Least}
use Rattle.algorithms.specs.Automaton.{Automaton, In, Δ, Accepted, alphabet_of}
use Rattle.algorithms.specs.Saturate.{language_of, saturation_of}
use Rattle.blocks.specs.Blocks.{content}
use Rattle.refusal.specs.declared.Refusal.{Refusal}
use Rattle.automaton.specs.File.{parsed}
use Rattle.automaton.specs.declared.Header.{Header}
use Rattle.transitions.specs.Transitions.{automaton_of}
use Rattle.emptiness.specs.Surveyed.{plan_bytes, Answered}
use Rattle.emptiness.specs.declared.Survey.{Survey}
use Rattle.emptiness.specs.declared.Quick.{Quick}

-- the plan of a Found h with so many rows, and the buffer that has it
pub record Planned (A : Automaton) (h rows : ℕ) (before after : List ℕ) : Type 0 where
  -- "The plan it then wrote is the one of document 01's survey" ..
  pub plan : List WitnessRow
  pub is_surveys : saturation_of A ≡ Found h plan
  -- .. "has N(h-1) + 1 rows and builds a tree of height h that passes."
  pub witness : WitnessFor (alphabet_of A) (language_of A) h plan
  pub rows_told : rows ≡ length plan
  -- "later bytes .. are unchanged" (document 01)
  pub bytes : after ≡ plan_bytes plan ++ drop (3 * rows) before

-- one of the three answers, at a height of at most 64
abbrev pub AtMost64 : Result Survey Refusal → Type 0
AtMost64 (Ok (Survey.Found h rows)) = h ≤ 64
AtMost64 (Ok (Survey.Open h)) = h ≤ 64
AtMost64 (Ok (Survey.Empty h)) = h ≤ 64
AtMost64 (Err r) = ⊥

-- of an automaton that was read, and a buffer of 195 bytes or more
pub record Surveys (A : Automaton) (before : List ℕ) (o : Answered) : Type 0 where
  -- "N(h) counts the trees of height at most h, alike ones once, and N(-1) is 0." Each is one number: what is counted is N(h), and nothing else.
  pub N : ℕ → ℕ
  pub counts : (h n : ℕ) → Counts (alphabet_of A) (language_of A) (suc h) n ↔ (n ≡ N h)
  pub counts_none : (n : ℕ) → Counts (alphabet_of A) (language_of A) 0 n ↔ (n ≡ 0)
  -- "The survey says Found h exactly when a tree of height h passes, none lower does and N(h-1) is at most 64."
  pub found : (h : ℕ) → ((rows : ℕ) × (o.answer ≡ Ok (Survey.Found h rows))) ↔ FoundAt (alphabet_of A) (language_of A) 64 h
  pub plan : (h rows : ℕ) → o.answer ≡ Ok (Survey.Found h rows) → Planned A h rows before o.buffer
  -- "The survey says Open h exactly when h is the least with N(h) over 64 and no tree of height at most h passes."
  pub open_says : (h : ℕ) → (o.answer ≡ Ok (Survey.Open h)) ↔ OpenAt (alphabet_of A) (language_of A) 64 h
  -- "It says Empty h exactly when no tree of any size passes, no N(i) is over 64 and h is the least with N(h) = N(h-1)."
  pub empty : (h : ℕ) → (o.answer ≡ Ok (Survey.Empty h)) ↔ EmptyAt (alphabet_of A) (language_of A) 64 h
  -- "It gives no fourth answer, and the height told is at most 64."
  pub height : AtMost64 o.answer
  -- "the whole buffer on other verdicts .. unchanged" (document 01)
  pub kept : ((h rows : ℕ) → o.answer ≡ Ok (Survey.Found h rows) → ⊥) → o.buffer ≡ before

-- "Take every walker file that reads without refusal and every plan buffer of 195 bytes or more, whatever stands in it."
abbrev pub Demand3 : (w before : List ℕ) → Answered → Type 0
Demand3 w before o = (h : Header) → parsed w ≡ Ok h → 195 ≤ length before → Surveys (automaton_of h (content w)) before o

-- "the root set has no way up from a start state to acceptance" (document 01)
abbrev pub NoWayUp : Automaton → Sets → Type 0
NoWayUp A sets = (p : ℕ) → In A.initial p → ¬ Top sets p

-- of an automaton that was read, and what its approximation answers
pub record Approximates (A : Automaton) (answer : Result Quick Refusal) : Type 0 where
  -- "The quick check of such a walker file answers by document 01's three sets": there are sets ..
  pub sets : Sets
  -- .. which are "the least that hold the crossings of all leaves and, for every branch symbol and place, the pairs formed" (document 01) ..
  pub least : Least (Δ A) (alphabet_of A) (In A.accepting) sets
  -- .. and the answer is "Clear if the root set has no way up from a start state to acceptance, else Unsure" (document 01), and no refusal.
  pub clear : (answer ≡ Ok Quick.Clear) ↔ NoWayUp A sets
  pub unsure : (answer ≡ Ok Quick.Unsure) ↔ (¬ NoWayUp A sets)
  pub no_refusal : (r : Refusal) → ¬ (answer ≡ Err r)
  -- "Wherever it says Clear, no tree of any size passes."
  pub sound : answer ≡ Ok Quick.Clear → (t : Tree) → Over (alphabet_of A) t → ¬ Accepted A t

-- "such a walker file": every one "that reads without refusal"
abbrev pub Demand3Quick : (w : List ℕ) → Result Quick Refusal → Type 0
Demand3Quick w answer = (h : Header) → parsed w ≡ Ok h → Approximates (automaton_of h (content w)) answer
