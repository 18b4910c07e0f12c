-- What the pass that links a node list of n nodes knows of the trees read so far: where each stands, and the links inside it.
-- Interface: `LinkedFrom`, `Placed`, `uncounted`, `Loaded`, `Stepped`.
use Rattle.std.proofs.Common.{Option, Some, None}
use Rattle.std.specs.Prelude.{ℕ, ◌+◌, ◌<◌, ◌≤◌, ◌≡◌, List, length, get_or}
use Rattle.model.specs.Trees.{Tree, size}
use Rattle.model.specs.declared.Signature.{Signature}
use Rattle.links.specs.Links.{parents_from, rights_from}
use Rattle.passes.specs.Told.{low_of}
use Rattle.passes.specs.Stacked.{Stacked}
use Rattle.passes.specs.declared.Stack.{Stack}

-- the tables have the links of a tree whose root is node `at`, but for the root's parent, which is not read yet
pub record LinkedFrom (parents rights : List ℕ) (at : ℕ) (t : Tree) : Type 0 where
  pub parents_are : (i : ℕ) → 0 < i → i < size t → get_or parents (at + i) 0 ≡ get_or (parents_from 0 at t) i 0
  pub rights_are : (i : ℕ) → i < size t → get_or rights (at + i) 0 ≡ get_or (rights_from at t) i 0

-- a word names the tree's root, which stands before the list s, the last of n nodes
pub record Placed (n : ℕ) (parents rights : List ℕ) (s : List ℕ) (w : ℕ) (t : Tree) : Type 0 where
  pub stands : low_of w + size t + length s ≡ n
  pub linked : LinkedFrom parents rights (low_of w) t

-- the pass needs no number of a tree
abbrev pub uncounted : Tree → ℕ
uncounted t = 0

-- the stack and the tables tell of the trees that the list s writes
pub record Loaded (sg : Signature) (n : ℕ) (parents rights table s : List ℕ) (st : Stack) : Type 0 where
  pub parents_long : n ≤ length parents
  pub rights_long : n ≤ length rights
  pub stacked : Stacked (Placed n parents rights) uncounted sg table s st 0

-- after a step: they tell of the longer list; or the pass is off
abbrev pub Stepped : Signature → (n : ℕ) (parents rights table s : List ℕ) → Option Stack → Type 0
Stepped sg n parents rights table s (Some st) = Loaded sg n parents rights table s st
Stepped sg n parents rights table s None = Unit {0}
