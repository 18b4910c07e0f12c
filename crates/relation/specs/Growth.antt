-- The growth of closing (document 02, W9): "Closing a table of pairs also returns how many pairs the closed table has that the given one lacked."
-- Interface: `without`, `growth_of`.
use Rattle.std.specs.Prelude.{List, [], ◌∷◌, ℕ, ◌-◌}
use Rattle.std.specs.Int.Bits.{bit_or}
use Rattle.relation.specs.Rows.{closed, count_of}

-- The pairs of the first relation that the second lacks.
abbrev pub without : List ℕ → List ℕ → List ℕ
without [] ys = []
without (x ∷ xs) [] = x ∷ xs
without (x ∷ xs) (y ∷ ys) = (bit_or x y - y) ∷ without xs ys

-- How many pairs closing over the states below n adds.
unfoldable pub growth_of : (n : ℕ) (rows : List ℕ) → ℕ
growth_of n rows = count_of (without (closed n rows) rows)
