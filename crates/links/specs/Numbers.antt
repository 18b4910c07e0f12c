-- The nodes of a tree by number: the index in preorder, from 0. `Numbered` ties them to the model's positions.
-- Interface: `Numbered`.
use Rattle.std.specs.Prelude.{[], ◌∷◌, ℕ, ◌+◌}
use Rattle.model.specs.declared.Side.TheVariants.{Left, Right}
use Rattle.model.specs.Trees.{Tree, node, size}
use Rattle.model.specs.Runs.{Position}

-- node i of t, in preorder, stands at the position α, and u is the subtree of t there. "A branch, its left part, its right part" (document
-- 01): the left part of node i is node i + 1, and the right part comes after all nodes of the left
pub data Numbered (t : Tree) : ℕ → Position → Tree → Type 0 where
  first : Numbered t 0 [] t
  to_left : {i : ℕ} {α : Position} {σ : ℕ} {l r : Tree} → Numbered t i α (node σ l r) → Numbered t (i + 1) (Left ∷ α) l
  to_right : {i : ℕ} {α : Position} {σ : ℕ} {l r : Tree} → Numbered t i α (node σ l r) → Numbered t (i + 1 + size l) (Right ∷ α) r
