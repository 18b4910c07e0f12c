-- What a pass over a node list, from its end, keeps on a stack of words: one for each tree that the rest of the list writes, the first on top.
-- Interface: `height_of`, `low_of`, `Words`, `Told`.
use Rattle.std.specs.Prelude.{ℕ, ◌+◌, ◌/◌, ◌%◌, ◌≤◌, ◌≡◌, List, [], ◌∷◌, ◌++◌}
use Rattle.model.specs.Trees.{Tree, height}
use Rattle.nodes.specs.Preorder.{preorder, Shaped}

-- a word: the height of a tree, over what the pass knows of it
abbrev pub height_of : ℕ → ℕ
height_of w = w / 4294967296

abbrev pub low_of : ℕ → ℕ
low_of w = w % 4294967296

-- what a word tells of its tree, with the list s after the tree
abbrev pub Words : Type 1
Words = (s : List ℕ) (w : ℕ) → Tree → Type 0

-- the list s writes trees at most 64 high, one after another, of which the words tell; and what a number f of each tree comes to in all
pub data Told (W : Words) (f : Tree → ℕ) (branches : ℕ) : (s words : List ℕ) (total : ℕ) → Type 0 where
  none : Told W f branches [] [] 0
  more : {s ws : List ℕ} {w n : ℕ} (t : Tree) → Shaped branches t → height_of w ≡ height t → height t ≤ 64 → W s w t → Told W f branches s ws n
      → Told W f branches (preorder t ++ s) (w ∷ ws) (f t + n)
