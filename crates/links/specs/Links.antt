-- The links of a tree's nodes, in preorder: what `link` writes. `Linked` says what they are in the model.
-- Interface: `parents_from`, `rights_from`, `parents_of`, `rights_of`, `place_in`.
use Rattle.std.specs.Prelude.{Bool, true, false, List, [], ◌∷◌, ◌++◌, ℕ, ◌+◌, eqb, get_or}
use Rattle.model.specs.declared.Side.{Side}
use Rattle.model.specs.declared.Place.{Place}
use Rattle.model.specs.Trees.{Tree, leaf, node, size}

-- the parents of the nodes of a tree whose root is node `at`, below node `up`
unfoldable pub parents_from : (up at : ℕ) → Tree → List ℕ
parents_from up at (leaf σ) = up ∷ []
parents_from up at (node σ l r) = up ∷ (parents_from at (at + 1) l ++ parents_from at (at + 1 + size l) r)

-- the right parts of its nodes; a leaf has none, and 0 stands for it
unfoldable pub rights_from : (at : ℕ) → Tree → List ℕ
rights_from at (leaf σ) = 0 ∷ []
rights_from at (node σ l r) = (at + 1 + size l) ∷ (rights_from (at + 1) l ++ rights_from (at + 1 + size l) r)

-- of a whole tree; the root has no parent, and 0 stands for it
abbrev pub parents_of : Tree → List ℕ
parents_of t = parents_from 0 0 t

abbrev pub rights_of : Tree → List ℕ
rights_of t = rights_from 0 t

abbrev pub side_if : (left : Bool) → Side
side_if true = Side.Left
side_if false = Side.Right

abbrev pub place_if : (root : Bool) → Side → Place
place_if true s = Place.Root
place_if false s = Place.Child s

-- the place of node i by a table of parents: node 0 is the root, and a left part follows its parent
unfoldable pub place_in : (parents : List ℕ) → (i : ℕ) → Place
place_in parents i = place_if (eqb i 0) (side_if (eqb (get_or parents i 0 + 1) i))
