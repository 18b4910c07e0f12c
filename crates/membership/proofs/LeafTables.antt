-- The tables of leaves, filled symbol by symbol, and read.
-- Assumes nothing.
use Prim.Native.Nat.{ℕ, ◌+◌, ◌%◌, ◌<◌, ◌≤◌}
use native.Mathlib.Decide.{ℕ_discrete}
use native.Mathlib.Omega.{arith}
use mathlib.Core.Path.{◌≡◌, ap, ◌∙◌}
use mathlib.Core.Bool.{true, false}
use mathlib.Core.List.{List}
use lib.ListN.{length, get_or, set, take, drop, length-set}
use lib.Seq.{get_or-set_same, get_or-set_other}
use Rattle.relation.specs.Sets.{member}
use Rattle.model.specs.declared.Side.{Side}
use Rattle.model.specs.declared.Place.{Place}
use Rattle.model.specs.Trees.{leaf}
use Rattle.algorithms.specs.Automaton.{Automaton, Proper}
use Rattle.algorithms.specs.Overloops.{leaf_overloops}
use Rattle.algorithms.specs.Growth.{leaf_growth, own_growth}
use Rattle.algorithms.proofs.OverloopLaws.{within-leaf_overloops}
use Rattle.algorithms.proofs.Grown.{own-few}
use Rattle.overloops.specs.Tables.{leaf_cell, Put}
use Rattle.overloops.proofs.Laws.{side-small, part-is, rows-put, rows-kept}
use Rattle.membership.specs.LeafTables.{growth_place, LeafParts}

pub no-parts : (A : Automaton) (b : ℕ) (t g : List ℕ) → length t ≡ 1536 → length g ≡ 64 → LeafParts 0 b A t g
no-parts A b t g e f = record { size = e; count = f; rows = λ σ s p l m h. absurd (omega arith); growth = λ σ s l m. absurd (omega arith) }

-- a branch symbol more
pub branch-passed : (A : Automaton) (n b : ℕ) (t g : List ℕ) → member b n ≡ true → LeafParts n b A t g → LeafParts (n + 1) b A t g
branch-passed A n b t g branch k =
    record {
      size = k.size;
      count = k.count;
      rows = λ σ s p l m h. k.rows σ s p (below σ l m (ℕ_discrete σ n)) m h;
      growth = λ σ s l m. k.growth σ s (below σ l m (ℕ_discrete σ n)) m;
    }
  where
    below : (σ : ℕ) → σ < n + 1 → member b σ ≡ false → Dec (σ ≡ n) → σ < n
    below σ l m (yes e) = let z : ◌≡◌ {A = ℕ} 0 1 = cc in absurd (omega arith)
    below σ l m (no e) = omega arith

-- a leaf symbol more
module _ (A : Automaton) (n b : ℕ) (t t₁ t₂ g g₁ g₂ : List ℕ) where
  pub leaf-passed : LeafParts n b A t g → n < 32
      → Put (leaf_cell n Side.Left) (leaf_overloops A (Place.Child Side.Left) n) t t₁ × (g₁ ≡ set g (growth_place n Side.Left) (leaf_growth A (Place.Child Side.Left) n))
      → Put (leaf_cell n Side.Right) (leaf_overloops A (Place.Child Side.Right) n) t₁ t₂ × (g₂ ≡ set g₁ (growth_place n Side.Right) (leaf_growth A (Place.Child Side.Right) n))
      → LeafParts (n + 1) b A t₂ g₂
  leaf-passed old small left right =
      record {
        size = right.0.size ∙ left.0.size ∙ old.size;
        count = long-right;
        rows = λ σ s p l m h. rows-by σ s p l m h (ℕ_discrete σ n);
        growth = λ σ s l m. growth-by σ s l m (ℕ_discrete σ n);
      }
    where
      long-left : length g₁ ≡ 64
      long-left = ap length left.1 ∙ length-set g (growth_place n Side.Left) (leaf_growth A (Place.Child Side.Left) n) ∙ old.count

      long-right : length g₂ ≡ 64
      long-right = ap length right.1 ∙ length-set g₁ (growth_place n Side.Right) (leaf_growth A (Place.Child Side.Right) n) ∙ long-left

      rows-by : (σ : ℕ) (s : Side) (p : ℕ) → σ < n + 1 → member b σ ≡ false → p < 24 → Dec (σ ≡ n)
          → get_or t₂ (leaf_cell σ s + p) 0 ≡ get_or (leaf_overloops A (Place.Child s) σ) p 0
      rows-by σ s p l m h (yes e) = rw e (rows-put (λ s. leaf_overloops A (Place.Child s) n) n t t₁ t₂ left.0 right.0 s p h)
      rows-by σ s p l m h (no e) =
          rows-kept (λ s. leaf_overloops A (Place.Child s) n) n t t₁ t₂ left.0 right.0 σ s p (omega arith) h ∙ old.rows σ s p (omega arith) m h

      -- the number at another place stays
      other-left : (i : ℕ) → (i ≡ growth_place n Side.Left → ⊥) → get_or g₁ i 0 ≡ get_or g i 0
      other-left i e = ap (λ (x : List ℕ). get_or x i 0) left.1 ∙ get_or-set_other g (growth_place n Side.Left) i _ 0 e

      other-right : (i : ℕ) → (i ≡ growth_place n Side.Right → ⊥) → get_or g₂ i 0 ≡ get_or g₁ i 0
      other-right i e = ap (λ (x : List ℕ). get_or x i 0) right.1 ∙ get_or-set_other g₁ (growth_place n Side.Right) i _ 0 e

      growth-here : (s : Side) → get_or g₂ (growth_place n s) 0 ≡ leaf_growth A (Place.Child s) n
      growth-here Side.Left =
          other-right (growth_place n Side.Left) (λ e. omega arith)
          ∙ ap (λ (x : List ℕ). get_or x (growth_place n Side.Left) 0) left.1
          ∙ get_or-set_same g (growth_place n Side.Left) _ 0 (omega (arith, old.count))
      growth-here Side.Right =
          ap (λ (x : List ℕ). get_or x (growth_place n Side.Right) 0) right.1 ∙ get_or-set_same g₁ (growth_place n Side.Right) _ 0 (omega (arith, long-left))

      growth-by : (σ : ℕ) (s : Side) → σ < n + 1 → member b σ ≡ false → Dec (σ ≡ n) → get_or g₂ (growth_place σ s) 0 ≡ leaf_growth A (Place.Child s) σ
      growth-by σ s l m (yes e) = rw e (growth-here s)
      growth-by σ s l m (no e) =
          let small = side-small s in
          other-right (growth_place σ s) (λ f. omega arith) ∙ other-left (growth_place σ s) (λ f. omega arith) ∙ old.growth σ s (omega arith) m

-- read
pub rows-read : (A : Automaton) → Proper A → (n b : ℕ) (t g : List ℕ) (σ : ℕ) (s : Side) → LeafParts n b A t g → σ < n → σ < 32 → member b σ ≡ false
    → take 24 (drop (leaf_cell σ s) t) ≡ leaf_overloops A (Place.Child s) σ
rows-read A P n b t g σ s k l small m =
    part-is t (leaf_cell σ s) (omega (arith, k.size, side-small s)) (leaf_overloops A (Place.Child s) σ) (within-leaf_overloops A P (Place.Child s) σ).rows
    (λ p h. k.rows σ s p l m h)

leaf-few : (A : Automaton) → Proper A → (s : Side) (σ : ℕ) → leaf_growth A (Place.Child s) σ ≤ 576
unfolding own_growth
leaf-few A P s σ = own-few A P (Place.Child s) (leaf σ)

pub growth-read : (A : Automaton) → Proper A → (n b : ℕ) (t g : List ℕ) (σ : ℕ) (s : Side) → LeafParts n b A t g → σ < n → member b σ ≡ false
    → get_or g (growth_place σ s) 0 % 1024 ≡ leaf_growth A (Place.Child s) σ
growth-read A P n b t g σ s k l m = let is = k.growth σ s l m in let few = leaf-few A P s σ in omega arith
