-- A row's tree by what the row's bytes say: its size from its parts' sizes, and its nodes after its parts' nodes.
-- Assumes nothing.
use Prim.Native.Nat.{ℕ, suc, ◌+◌, ◌<◌, ◌≤◌, min}
use native.Mathlib.Omega.{arith}
use native.Mathlib.Numerals.{add-one}
use mathlib.Core.Path.{◌≡◌, refl, ap, ◌∙◌}
use mathlib.Core.List.{List, ◌++◌}
use lib.ListN.{length, get_or, set, drop}
use lib.Seq.{sets}
use Rattle.blocks.proofs.Stores.{sets-append, sets-front}
use Rattle.model.specs.Trees.{Tree, leaf, node, size}
use Rattle.nodes.specs.Preorder.{preorder}
use Rattle.nodes.proofs.Standing.{size-preorder}
use Rattle.witness.specs.Plan.{rows_in, left_at, right_at, row_tree}
use Rattle.witness.specs.Sound.{Sound, Sized}
use Rattle.witness.proofs.Passed.{leaf-tree, node-tree}

-- ---- sizes

module _ (p : List ℕ) (s : Sound p) (i : ℕ) where
  pub leaf-size : left_at p i ≡ 255 → size (row_tree p i) ≡ 1
  leaf-size e = ap size (leaf-tree p s i e)

  pub node-size : i < rows_in p → (left_at p i ≡ 255 → ⊥) → size (row_tree p i) ≡ suc (size (row_tree p (left_at p i)) + size (row_tree p (right_at p i)))
  node-size l n = ap size (node-tree p s i l n).tree

pub size-some : (t : Tree) → 1 ≤ size t
size-some (leaf σ) = omega arith
size-some (node σ l r) = omega arith

-- one size more
pub sized-more : (p sizes : List ℕ) (i x : ℕ) → i < length sizes → Sized p sizes i → x ≡ min (size (row_tree p i)) 4097 → Sized p (set sizes i x) (i + 1)
sized-more p sizes i x h s e k l = go (native.Mathlib.Decide.ℕ_discrete k i)
  where
    go : Dec (k ≡ i) → get_or (set sizes i x) k 0 ≡ min (size (row_tree p k)) 4097
    go (yes f) = rw f (lib.Seq.get_or-set_same sizes i x 0 h ∙ e)
    go (no f) = lib.Seq.get_or-set_other sizes i k x 0 f ∙ s k (omega arith)

-- ---- nodes

pub leaf-written : (t : Tree) (σ at : ℕ) (out : List ℕ) → t ≡ leaf σ → set out at σ ≡ sets out at (preorder t)
unfolding preorder
leaf-written t σ at out e = rw e

pub node-written : (t l r : Tree) (σ at m : ℕ) (out x y : List ℕ) → t ≡ node σ l r → m ≡ at + 1 + size l →
    x ≡ sets (set out at σ) (at + 1) (preorder l) → y ≡ sets x m (preorder r) → y ≡ sets out at (preorder t)
unfolding preorder
node-written t l r σ at m out x y e em ex ey =
    rw (ey, ex, em, e, ← size-preorder l, add-one at) (sets-append (preorder l) (preorder r) (set out at σ) (suc at) (suc at + length (preorder l)) refl)

pub front-written : (t : Tree) (out : List ℕ) → size t ≤ length out → sets out 0 (preorder t) ≡ preorder t ++ drop (size t) out
front-written t out h = sets-front (preorder t) out (size t) (size-preorder t) h
