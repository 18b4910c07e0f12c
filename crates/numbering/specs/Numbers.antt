-- Answers as numbers, for programs in other languages: of each the number that is answered, and the three numbers told with it.
-- Interface: `refusal_told`, `answer_number`, `answer_told`, `growth_numbers`, `survey_number`, `survey_told`, `quick_number`, `quick_told`, `single_number`, `single_told`,
-- `count_number`, `count_told`, `watch_number`, `watch_told`, `compared_number`, `compared_counts`, `compared_told`, `outcome_numbered`, `tally_of`,
-- `tally_numbers`, `check_number`, `check_told`, `judged_tally`.
use Rattle.std.specs.Prelude.{ℕ, zero, suc, List, [], ◌∷◌, get_or, Result, Ok, Err}
use Rattle.refusal.specs.declared.Refusal.{Refusal}
use Rattle.determinism.specs.declared.Singleness.{Singleness}
use Rattle.membership.specs.declared.Answer.{Answer}
use Rattle.membership.specs.declared.Judged.{Judged}
use Rattle.emptiness.specs.declared.Survey.{Survey}
use Rattle.emptiness.specs.declared.Quick.{Quick}
use Rattle.tally.specs.declared.Outcome.{Outcome}
use Rattle.tally.specs.declared.Tally.{Tally}
use Rattle.watch.specs.declared.Watched.{Watched}
use Rattle.logs.specs.declared.Compared.{Compared}
use Rattle.refusal.specs.Checks.{Check}

-- nothing is told
abbrev pub none : List ℕ
none = 0 ∷ 0 ∷ 0 ∷ []

-- a refusal: number, file, place
abbrev pub refusal_told : Refusal → List ℕ
refusal_told r = r.number ∷ r.file ∷ r.place ∷ []

-- judging
abbrev pub answer_number : Result Answer Refusal → ℕ
answer_number (Ok Answer.Accepted) = 0
answer_number (Ok Answer.Other) = 1
answer_number (Err r) = 2

abbrev pub answer_told : Result Answer Refusal → List ℕ
answer_told (Ok Answer.Accepted) = none
answer_told (Ok Answer.Other) = none
answer_told (Err r) = refusal_told r

-- the sum that an answer comes with
abbrev pub growth_numbers : Judged → List ℕ
growth_numbers j = j.growth ∷ []

-- a call that counts: the files that were judged, or the bytes that were written
abbrev pub count_number : Result ℕ Refusal → ℕ
count_number (Ok n) = 0
count_number (Err r) = 1

abbrev pub count_told : Result ℕ Refusal → List ℕ
count_told (Ok n) = n ∷ 0 ∷ 0 ∷ []
count_told (Err r) = refusal_told r

-- the survey: height, and the plan's rows where a tree was found
abbrev pub survey_number : Result Survey Refusal → ℕ
survey_number (Ok (Survey.Found h rows)) = 0
survey_number (Ok (Survey.Open h)) = 1
survey_number (Ok (Survey.Empty h)) = 2
survey_number (Err r) = 3

abbrev pub survey_told : Result Survey Refusal → List ℕ
survey_told (Ok (Survey.Found h rows)) = h ∷ rows ∷ 0 ∷ []
survey_told (Ok (Survey.Open h)) = h ∷ 0 ∷ 0 ∷ []
survey_told (Ok (Survey.Empty h)) = h ∷ 0 ∷ 0 ∷ []
survey_told (Err r) = refusal_told r

-- the quick check
abbrev pub quick_number : Result Quick Refusal → ℕ
quick_number (Ok Quick.Clear) = 0
quick_number (Ok Quick.Unsure) = 1
quick_number (Err r) = 2

abbrev pub quick_told : Result Quick Refusal → List ℕ
quick_told (Ok Quick.Clear) = none
quick_told (Ok Quick.Unsure) = none
quick_told (Err r) = refusal_told r

-- single
abbrev pub single_number : Result Singleness Refusal → ℕ
single_number (Ok Singleness.Single) = 0
single_number (Ok Singleness.Multiple) = 1
single_number (Err r) = 2

abbrev pub single_told : Result Singleness Refusal → List ℕ
single_told (Ok Singleness.Single) = none
single_told (Ok Singleness.Multiple) = none
single_told (Err r) = refusal_told r

-- watching: the steps made
abbrev pub watch_number : Result Watched Refusal → ℕ
watch_number (Ok (Watched.Passed n)) = 0
watch_number (Ok (Watched.Stuck n)) = 1
watch_number (Ok (Watched.Circling n)) = 2
watch_number (Ok (Watched.Spent n)) = 3
watch_number (Err r) = 4

abbrev pub watch_told : Result Watched Refusal → List ℕ
watch_told (Ok (Watched.Passed n)) = n ∷ 0 ∷ 0 ∷ []
watch_told (Ok (Watched.Stuck n)) = n ∷ 0 ∷ 0 ∷ []
watch_told (Ok (Watched.Circling n)) = n ∷ 0 ∷ 0 ∷ []
watch_told (Ok (Watched.Spent n)) = n ∷ 0 ∷ 0 ∷ []
watch_told (Err r) = refusal_told r

-- two logs held together: the length of the part, and how many entries of each are a run; all 0 where the call is refused
abbrev pub compared_number : Result Compared Refusal → ℕ
compared_number (Ok both) = 0
compared_number (Err r) = 1

abbrev pub compared_counts : Result Compared Refusal → (part : ℕ) → List ℕ
compared_counts (Ok both) part = part ∷ both.first ∷ both.second ∷ []
compared_counts (Err r) part = none

abbrev pub compared_told : Result Compared Refusal → List ℕ
compared_told (Ok both) = none
compared_told (Err r) = refusal_told r

-- counting: an outcome, and a tally, by their numbers; whether the outcome was counted
unfoldable pub outcome_numbered : ℕ → Outcome
outcome_numbered zero = Outcome.Accepted
outcome_numbered (suc zero) = Outcome.Other
outcome_numbered (suc (suc n)) = Outcome.Refused

abbrev pub tally_of : List ℕ → Tally
tally_of ns = record { accepted = get_or ns 0 0; other = get_or ns 1 0; refused = get_or ns 2 0 }

abbrev pub tally_numbers : Tally → List ℕ
tally_numbers t = t.accepted ∷ t.other ∷ t.refused ∷ []

abbrev pub check_number : Check → ℕ
check_number (Ok _) = 0
check_number (Err r) = 1

abbrev pub check_told : Check → List ℕ
check_told (Ok _) = none
check_told (Err r) = refusal_told r

-- a tally by those judged; refused files do not count in the percent
abbrev pub judged_tally : (accepted other : ℕ) → Tally
judged_tally a o = record { accepted = a; other = o; refused = 0 }
