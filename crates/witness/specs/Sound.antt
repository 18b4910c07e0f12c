-- What the code needs of a plan to count and to write its nodes: rows that name earlier rows, and sizes that are counted up to 4,097.
-- Interface: `Sound`, `Sized`.
use Rattle.std.specs.Prelude.{ℕ, ◌*◌, ◌<◌, ◌≤◌, min, ◌≡◌, List, length, get_or}
use Rattle.model.specs.Trees.{size}
use Rattle.witness.specs.Plan.{rows_in, left_at, right_at, row_tree}

pub data RowIs (p : List ℕ) (i : ℕ) : Type 0 where
  leaf_row : left_at p i ≡ 255 → right_at p i ≡ 255 → RowIs p i
  node_row : left_at p i < i → right_at p i < i → RowIs p i

-- what 15 leaves, of the rows alone
pub record Sound (p : List ℕ) : Type 0 where
  pub some : 0 < rows_in p
  pub few : rows_in p ≤ 65
  pub whole : length p ≡ 3 * rows_in p
  pub rows : (i : ℕ) → i < rows_in p → RowIs p i

-- the sizes of the first n rows' trees, each at most 4,097
abbrev pub Sized : (p sizes : List ℕ) → (n : ℕ) → Type 0
Sized p sizes n = (k : ℕ) → k < n → get_or sizes k 0 ≡ min (size (row_tree p k)) 4097
