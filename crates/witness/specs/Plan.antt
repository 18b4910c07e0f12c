-- A plan as bytes: its rows, the tree that it builds, and refusals 15 and 16. The quotations are of document 02, W1, if not said otherwise.
-- Interface: `plan_rows`, `plan_tree`, `plan_check`, `large_check`.
use Rattle.std.specs.Prelude.{ℕ, zero, suc, ◌+◌, ◌-◌, ◌*◌, ◌/◌, ◌%◌, Bool, true, false, not, ◌||◌, List, [], ◌∷◌, leb, ltb, eqb, length, get_or}
use Rattle.blocks.specs.Search.{lowest}
use Rattle.relation.specs.Sets.{member}
use Rattle.model.specs.Trees.{Tree, leaf, node, size}
use Rattle.model.specs.Saturation.{WitnessRow, witness_row}
use Rattle.model.specs.declared.Signature.{Signature}
use Rattle.refusal.specs.Checks.{refuse_if, refuse_at, ◌and_then◌, Check}
use Rattle.refusal.specs.declared.Fault.{Fault}

-- ---- the rows

-- "Plan row: symbol, left row, right row" (document 01): the rows of `plan_bytes`, back. Bytes that make no whole row are left out.
abbrev pub plan_rows : List ℕ → List WitnessRow
plan_rows [] = []
plan_rows (σ ∷ []) = []
plan_rows (σ ∷ a ∷ []) = []
plan_rows (σ ∷ a ∷ b ∷ p) = witness_row σ a b ∷ plan_rows p

abbrev pub rows_in : List ℕ → ℕ
rows_in p = length p / 3

abbrev pub symbol_at : List ℕ → (row : ℕ) → ℕ
symbol_at p i = get_or p (3 * i) 0

abbrev pub left_at : List ℕ → (row : ℕ) → ℕ
left_at p i = get_or p (3 * i + 1) 0

abbrev pub right_at : List ℕ → (row : ℕ) → ℕ
right_at p i = get_or p (3 * i + 2) 0

-- ---- the tree

abbrev pub joined_if : (leaf_row : Bool) → ℕ → Tree → Tree → Tree
joined_if true σ l r = leaf σ
joined_if false σ l r = node σ l r

-- the tree of a row, at most so many steps down
unfoldable pub tree_within : List ℕ → (steps row : ℕ) → Tree
tree_within p zero i = leaf (symbol_at p i)
tree_within p (suc steps) i = joined_if (eqb (left_at p i) 255) (symbol_at p i) (tree_within p steps (left_at p i)) (tree_within p steps (right_at p i))

-- a row's tree: the rows below it are earlier ones, so that it is at most `row` steps down
unfoldable pub row_tree : List ℕ → (row : ℕ) → Tree
row_tree p i = tree_within p (suc i) i

-- "the last row's tree"; "a shared row is copied each time it is used", as a tree has its parts
abbrev pub plan_tree : List ℕ → Tree
plan_tree p = row_tree p (rows_in p - 1)

-- ---- 15

-- "plan empty, no multiple of three, over 195 bytes"
unfoldable pub length_wrong : ℕ → Bool
length_wrong n = eqb n 0 || not (eqb (n % 3) 0) || ltb 195 n

-- "a row that names itself, a later row .. or the wrong number of parts": a branch's row names two earlier rows, a leaf's has 255 255
unfoldable pub parts_wrong : (branch : Bool) → (row left right : ℕ) → Bool
parts_wrong true i a b = leb i a || leb i b
parts_wrong false i a b = not (eqb a 255) || not (eqb b 255)

-- .. "an unknown symbol"
unfoldable pub row_wrong : Signature → List ℕ → (row : ℕ) → Bool
row_wrong sg p i = leb sg.symbols (symbol_at p i) || parts_wrong (member sg.branches (symbol_at p i)) i (left_at p i) (right_at p i)

-- "place the first bad row, or 0 for a bad length, which is looked at first"
unfoldable pub plan_check : Signature → List ℕ → Check
plan_check sg p = refuse_if (length_wrong (length p)) Fault.Plan 2 0 and_then refuse_at Fault.Plan 2 (lowest (row_wrong sg p) (rows_in p))

-- ---- 16

-- "over 4,096 nodes, place 0"
unfoldable pub large_check : List ℕ → Check
large_check p = refuse_if (ltb 4096 (size (plan_tree p))) Fault.Large 2 0
