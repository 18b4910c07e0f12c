-- The stack of a pass with what it tells of the list read so far, from its end.
-- Interface: `Stacked`, `One`, `Parts`.
use Rattle.std.specs.Prelude.{ℕ, ◌+◌, ◌≡◌, List, [], ◌++◌}
use Rattle.model.specs.Trees.{Tree, node}
use Rattle.model.specs.declared.Signature.{Signature}
use Rattle.nodes.specs.Preorder.{preorder, Below, Writes}
use Rattle.passes.specs.Told.{Words, Told}
use Rattle.passes.specs.Held.{Held}
use Rattle.passes.specs.declared.Stack.{Stack}

-- the stack tells of the trees that the list s writes, and f of them comes to the total; the list has symbols of the signature
pub record Stacked (W : Words) (f : Tree → ℕ) (sg : Signature) (table s : List ℕ) (st : Stack) (total : ℕ) : Type 0 where
  pub words : List ℕ
  pub held : Held table st words
  pub told : Told W f sg.branches s words total
  pub below : Below sg.symbols s

-- the list writes one tree, of which a word tells, and f of it is n
pub record One (W : Words) (f : Tree → ℕ) (sg : Signature) (s : List ℕ) (w n : ℕ) : Type 0 where
  pub tree : Tree
  pub writes : Writes sg s tree
  pub tells : W [] w tree
  pub total : n ≡ f tree

-- the list writes a branch, two words tell of its parts, and f of both comes to n
pub record Parts (W : Words) (f : Tree → ℕ) (sg : Signature) (s : List ℕ) (x y n : ℕ) : Type 0 where
  pub σ : ℕ
  pub l : Tree
  pub r : Tree
  pub writes : Writes sg s (node σ l r)
  pub tells_l : W (preorder r ++ []) x l
  pub tells_r : W [] y r
  pub total : n ≡ f l + f r
