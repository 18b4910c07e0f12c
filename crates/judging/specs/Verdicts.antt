-- What judging by a pass over the nodes tells of a node list and of a tree's file, with the sum of growths where that is asked for; or nothing.
-- Interface: `Judges`, `JudgesWith`, `ToldOf`, `JudgedOf`.
use Rattle.std.specs.Prelude.{ℕ, ◌≡◌, Bool, true, List, Ok}
use Rattle.model.specs.declared.Signature.{Signature}
use Rattle.algorithms.specs.Automaton.{Automaton}
use Rattle.membership.specs.Judged.{judged_by}
use Rattle.membership.specs.Grown.{growth_by}
use Rattle.membership.specs.declared.Answer.{Answer}
use Rattle.passes.specs.Verdicts.{Tells}
use Rattle.passes.specs.declared.Verdict.{Verdict}
use Rattle.bottom_up.specs.Told.{Weighs}
use Rattle.bottom_up.specs.declared.Weighed.{Weighed}

-- what judging answers of the file ..
abbrev pub Judges : Automaton → (s : List ℕ) → Verdict → Type 0
Judges A s Verdict.Accepted = Ok Answer.Accepted ≡ judged_by A s
Judges A s Verdict.Other = Ok Answer.Other ≡ judged_by A s
Judges A s Verdict.Unknown = Unit {0}

-- .. and its sum
abbrev pub JudgesWith : Automaton → (s : List ℕ) → Verdict → (growth : ℕ) → Type 0
JudgesWith A s Verdict.Accepted g = g ≡ growth_by A s
JudgesWith A s Verdict.Other g = g ≡ growth_by A s
JudgesWith A s Verdict.Unknown g = Unit {0}

-- of a node list, and of a file: a verdict, and where sums are asked for the sum as well
abbrev pub ToldOf : Automaton → Signature → (s : List ℕ) (sums : Bool) → Weighed → Type 0
ToldOf A sg s sums r = Tells A sg s r.verdict × (sums ≡ true → Weighs A sg s r.verdict r.growth)

abbrev pub JudgedOf : Automaton → (s : List ℕ) (sums : Bool) → Weighed → Type 0
JudgedOf A s sums r = Judges A s r.verdict × (sums ≡ true → JudgesWith A s r.verdict r.growth)
