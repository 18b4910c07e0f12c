-- Two answers as numbers, for what is timed alone (document 02, W5: "Time 1,000 letters of nine blocks before and after.").
-- Interface: `place_or`, `count_told`.
use Rattle.std.specs.Prelude.{ℕ, Option, Some, None, Result, Ok, Err}
use Rattle.refusal.specs.declared.Refusal.{Refusal}

-- where a search ended, or another number
abbrev pub place_or : Option ℕ → ℕ → ℕ
place_or (Some k) n = k
place_or None n = n

-- the number of nodes; no tree has none
abbrev pub count_told : Result ℕ Refusal → ℕ
count_told (Ok k) = k
count_told (Err r) = 0
