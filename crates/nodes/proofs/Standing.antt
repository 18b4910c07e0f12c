-- Preorder is unambiguous; and what stands at a node of a list, for functions that go through the list by recursion over its tree.
-- Assumes nothing.
use Prim.Native.Nat.{ℕ, suc, ◌+◌, ◌<◌}
use native.Mathlib.Omega.{arith}
use mathlib.Core.Path.{◌≡◌, refl, sym, ap, ◌∙◌}
use mathlib.Core.Bool.{true, false}
use mathlib.Core.List.{List, ◌∷◌, ◌++◌, append_assoc, append_cancel_left}
use lib.ListN.{length, get_or, drop, length-append}
use lib.Seq.{drop-drop, drop_at}
use Rattle.blocks.proofs.Stores.{first}
use Rattle.relation.specs.Sets.{member}
use Rattle.model.specs.Trees.{Tree, leaf, node, size}
use Rattle.nodes.specs.Preorder.{preorder, Shaped, Stands, leaf_at, node_at}
use Rattle.nodes.specs.Nodes.{grow, forest}

-- a list that begins with a tree's list begins with that tree, and what is left is left
pub forest-preorder : (b : ℕ) (t : Tree) (s : List ℕ) → Shaped b t → forest b (preorder t ++ s) ≡ t ∷ forest b s
unfolding forest preorder Shaped
forest-preorder b (leaf σ) s h = rw h
forest-preorder b (node σ l r) s h =
    let parts : forest b ((preorder l ++ preorder r) ++ s) ≡ l ∷ r ∷ forest b s =
    rw (append_assoc, forest-preorder b l (preorder r ++ s) h.1, forest-preorder b r s h.2) in
    ap (λ (ts : List Tree). grow (member b σ) σ ts) parts ∙ rw h.0

-- two trees that begin one list are one tree, with one rest
pub unambiguous :
    (b : ℕ) (t u : Tree) (r s : List ℕ) → Shaped b t → Shaped b u →
    preorder t ++ r ≡ preorder u ++ s → (t ≡ u) × (r ≡ s)
unambiguous b t u r s ht hu e = (same, append_cancel_left (preorder t) r s (cc (ap (λ (v : Tree). preorder v ++ s) same)))
  where
    same : t ≡ u
    same = cc (forest-preorder b t r ht, forest-preorder b u s hu)

-- one symbol a node
pub size-preorder : (t : Tree) → length (preorder t) ≡ size t
unfolding preorder
size-preorder (leaf σ) = refl
size-preorder (node σ l r) =
    ap suc (length-append (preorder l) (preorder r) ∙ cc (size-preorder l, size-preorder r))

-- a tree that begins what follows a node stands there
pub stands :
    (b : ℕ) (s : List ℕ) (at : ℕ) (t : Tree) (rest : List ℕ) → Shaped b t → drop at s ≡ preorder t ++ rest →
    Stands b s at t
unfolding Shaped preorder
stands b s at (leaf σ) rest h e = let f = first s at σ rest e in rw (← f.1) (leaf_at f.0 (rw f.1 h))
stands b s at (node σ l r) rest h e =
    let f = first s at σ (preorder l ++ preorder r ++ rest) e in
    let g : drop (at + 1) s ≡ preorder l ++ (preorder r ++ rest) = f.2 ∙ simp append_assoc in
    rw (← f.1)
    (node_at f.0 (rw f.1 h.0)
    (stands b s (at + 1) l (preorder r ++ rest) h.1 g)
    (stands b s (at + 1 + size l) r rest h.2
    (sym (drop-drop (size l) (at + 1) s) ∙ ap (drop (size l)) g
    ∙ drop_at (preorder l) (preorder r ++ rest) (size l) (size-preorder l))))

-- what stands at a node is in the list
pub within : {b : ℕ} {s : List ℕ} {at : ℕ} {t : Tree} → Stands b s at t → at < length s
within (leaf_at h p) = h
within (node_at h p x y) = h

-- at a leaf symbol stands that leaf
pub leaf-here :
    {b : ℕ} {s : List ℕ} {at : ℕ} {t : Tree} → member b (get_or s at 0) ≡ false → Stands b s at t →
    t ≡ leaf (get_or s at 0)
leaf-here e (leaf_at h p) = refl
leaf-here e (node_at h p x y) = cc

pub record Parts (b : ℕ) (s : List ℕ) (at : ℕ) (t : Tree) : Type 0 where
  pub l : Tree
  pub r : Tree
  pub tree : t ≡ node (get_or s at 0) l r
  pub left : Stands b s (at + 1) l
  pub right : Stands b s (at + 1 + size l) r

-- at a branch symbol stands that branch, over what stands next and after that
pub node-here :
    {b : ℕ} {s : List ℕ} {at : ℕ} {t : Tree} → member b (get_or s at 0) ≡ true → Stands b s at t →
    Parts b s at t
node-here e (leaf_at h p) = let z : ◌≡◌ {A = ℕ} 0 1 = cc in absurd (omega arith)
node-here e (node_at {l = l} {r = r} h p x y) = record { l = l; r = r; tree = refl; left = x; right = y }
