-- The percents of some tallies (document 02, W3), as one table: halves, what stands beside them, and numbers that fill 32 bits.
-- Interface: `Case`, `cases`, `tally_in`, `told`.
use Rattle.std.specs.Prelude.{ℕ, ◌-◌, List, [], ◌∷◌}
use Rattle.tally.specs.declared.Tally.{Tally}

-- of so many that were judged so many were accepted, and this is the percent
infix 80 ◌of◌prints◌
pub data Case : Type 0 where
  ◌of◌prints◌ : (accepted judged percent : ℕ) → Case

unfoldable pub cases : List Case
cases =
    1 of 2 prints 50  -- "The printed example of document 01 keeps its 50."
    ∷ 1 of 8 prints 12  -- "1 of 8 prints 12 where it printed 13"
    ∷ 3 of 8 prints 38  -- "3 of 8 prints 38 as before"
    ∷ 5 of 8 prints 62
    ∷ 7 of 8 prints 88
    ∷ 1 of 200 prints 0
    ∷ 3 of 200 prints 2
    ∷ 197 of 200 prints 98
    ∷ 199 of 200 prints 100
    -- beside a half
    ∷ 124 of 1000 prints 12
    ∷ 126 of 1000 prints 13
    ∷ 374 of 1000 prints 37
    ∷ 376 of 1000 prints 38
    -- none and all
    ∷ 0 of 0 prints 0
    ∷ 0 of 8 prints 0
    ∷ 8 of 8 prints 100
    -- 2^32 - 1 accepted, other, or both
    ∷ 4294967295 of 4294967295 prints 100
    ∷ 0 of 4294967295 prints 0
    ∷ 4294967295 of 4294967296 prints 100
    ∷ 1 of 4294967296 prints 0
    ∷ 4294967295 of 8589934590 prints 50
    -- 49.5 and 50.5 percent, and one letter beside them
    ∷ 4209918372 of 8504885600 prints 50
    ∷ 4209918371 of 8504885599 prints 49
    ∷ 4294967228 of 8504885600 prints 50
    ∷ 4294967229 of 8504885601 prints 51
    ∷ []

-- a row's tally, and the percent that the row tells
abbrev pub tally_in : Case → Tally
tally_in (accepted of judged prints percent) = record { accepted = accepted; other = judged - accepted; refused = 0 }

abbrev pub told : Case → ℕ
told (accepted of judged prints percent) = percent
