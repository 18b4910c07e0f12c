-- Links that are stored from a node on.
-- Assumes nothing.
use Prim.Native.Nat.{ℕ, suc, ◌+◌, ◌<◌}
use native.Mathlib.Numerals.{add-one}
use native.Mathlib.Omega.{arith}
use mathlib.Core.Path.{◌≡◌, refl, ap, ◌∙◌}
use mathlib.Core.List.{List, [], ◌∷◌}
use lib.ListN.{length, set, length-append}
use lib.Seq.{sets, set_comm}
use Rattle.blocks.proofs.Stores.{sets-append}
use Rattle.model.specs.Trees.{Tree, leaf, node, size}
use Rattle.links.specs.Links.{parents_from, rights_from}

pub parents-length : (up at : ℕ) (t : Tree) → length (parents_from up at t) ≡ size t
unfolding parents_from
parents-length up at (leaf σ) = refl
parents-length up at (node σ l r) =
    ap suc (length-append (parents_from at (at + 1) l) (parents_from at (at + 1 + size l) r)
    ∙ cc (parents-length at (at + 1) l, parents-length at (at + 1 + size l) r))

pub rights-length : (at : ℕ) (t : Tree) → length (rights_from at t) ≡ size t
unfolding rights_from
rights-length at (leaf σ) = refl
rights-length at (node σ l r) =
    ap suc (length-append (rights_from (at + 1) l) (rights_from (at + 1 + size l) r)
    ∙ cc (rights-length (at + 1) l, rights-length (at + 1 + size l) r))

-- a store before a run of stores
set-sets : (vs l : List ℕ) (i at v : ℕ) → at < i → set (sets l i vs) at v ≡ sets (set l at v) i vs
set-sets [] l i at v h = refl
set-sets (a ∷ vs) l i at v h =
    set-sets vs (set l i a) (suc i) at v (omega arith) ∙ ap (λ (x : List ℕ). sets x (suc i) vs) (set_comm l i at a v (λ e. omega arith))

module _ (at : ℕ) (l r : Tree) where
  -- the parent of a node is stored, then those of its left part, then those of its right part
  pub parents-stored : (up σ : ℕ) (P P₁ P₂ : List ℕ) → P₁ ≡ sets (set P at up) (at + 1) (parents_from at (at + 1) l)
      → P₂ ≡ sets P₁ (at + 1 + size l) (parents_from at (at + 1 + size l) r) → P₂ ≡ sets P at (parents_from up at (node σ l r))
  unfolding parents_from
  parents-stored up σ P P₁ P₂ e f =
      rw (f, e, add-one at)
      (sets-append (parents_from at (suc at) l) (parents_from at (suc at + size l) r) (set P at up) (suc at) (suc at + size l)
      (omega (arith, parents-length at (suc at) l)))

  -- the right parts of the left part are stored, then that of the node, then those of its right part
  pub rights-stored : (σ : ℕ) (R R₁ R₂ : List ℕ) → R₁ ≡ sets R (at + 1) (rights_from (at + 1) l)
      → R₂ ≡ sets (set R₁ at (at + 1 + size l)) (at + 1 + size l) (rights_from (at + 1 + size l) r) → R₂ ≡ sets R at (rights_from at (node σ l r))
  unfolding rights_from
  rights-stored σ R R₁ R₂ e f =
      rw (f, e, add-one at, set-sets (rights_from (suc at) l) R (suc at) at (suc at + size l) (omega arith))
      (sets-append (rights_from (suc at) l) (rights_from (suc at + size l) r) (set R at (suc at + size l)) (suc at) (suc at + size l)
      (omega (arith, rights-length (suc at) l)))
