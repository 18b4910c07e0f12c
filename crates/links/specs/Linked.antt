-- What the links are in the model. `Linked` is the record to cite; proofs/Linking has the proof of it for every node.
-- Interface: `Linked`.
use Rattle.std.specs.Prelude.{◌≡◌, List, [], ◌∷◌, ℕ, get_or}
use Rattle.model.specs.declared.Side.TheVariants.{Right}
use Rattle.model.specs.declared.Place.TheVariants.{Root}
use Rattle.model.specs.Trees.{Tree, leaf, node}
use Rattle.model.specs.Runs.{Position, place}
use Rattle.links.specs.Links.{place_in}
use Rattle.links.specs.Numbers.{Numbered}

-- node `up` stands at the parent of the position α; the root has none, and 0 stands for it
abbrev pub ParentOf : Tree → Position → (up : ℕ) → Type 0
ParentOf t [] up = up ≡ 0
ParentOf t (s ∷ α) up = (v : Tree) × Numbered t up α v

-- two tables have of node i, at the position α with the subtree u: its parent, its place and, of a branch, its right part; a leaf has none, and 0
-- stands for it
pub record Linked (t : Tree) (parents rights : List ℕ) (i : ℕ) (α : Position) (u : Tree) : Type 0 where
  pub parent : ParentOf t α (get_or parents i 0)
  pub place_is : place_in parents i ≡ place Root α
  pub right : (σ : ℕ) (l r : Tree) → u ≡ node σ l r → Numbered t (get_or rights i 0) (Right ∷ α) r
  pub no_right : (σ : ℕ) → u ≡ leaf σ → get_or rights i 0 ≡ 0
