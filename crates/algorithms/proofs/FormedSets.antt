-- What leaves and branches put into the sets of the approximation: the pairs of its tables, in terms of runs.
use mathlib.Core.Path.{◌≡◌, refl}
use mathlib.Core.Logic.{◌⊎◌, inl, inr, ⊎_elim, ◌↔◌}
use mathlib.Core.List.Memᴰ
use mathlib.Core.List.{List, [], ◌∷◌}
use Prim.Native.Nat.{ℕ, ◌<◌}
use Rattle.relation.specs.Rows.{has}
use Rattle.relation.proofs.Pairs.{has-none, has-joined}
use Rattle.relation.specs.Chain.{Within}
use Rattle.relation.proofs.Algebra.{within_none, within-joined}
use Rattle.model.specs.declared.Side.{Side}
use Rattle.model.specs.declared.Side.TheVariants.{Left, Right}
use Rattle.model.specs.declared.Place.TheVariants.{Root, Child}
use Rattle.model.specs.Trees.{leaf}
use Rattle.model.specs.Runs.{Chain, UpClosure, Overloop, Loop, Simple}
use Rattle.model.specs.Lists.{◌∈◌}
use Rattle.model.proofs.FromParts.{sides}
use Rattle.algorithms.specs.Automaton.{Automaton, Δ, Proper, alphabet_of}
use Rattle.algorithms.specs.Overloops.{leaf_loops, node_loops, leaf_overloops, node_overloops}
use Rattle.algorithms.specs.Saturate.{Parts}
use Rattle.algorithms.specs.Approximate.{union, side, leaf_side, formed_side, formed, root_side}
use Rattle.algorithms.proofs.OverloopLaws.{has-leaf_loops, has-node_loops, within-leaf_overloops, has-leaf_overloops, within-node_overloops}
use Rattle.algorithms.proofs.OverloopLaws.{has-node_overloops}

-- ---- unions

has-union : (f : ℕ → List ℕ) {S : ℕ → Type 0} (σs : List ℕ) (p q : ℕ) → ((σ : ℕ) → has (f σ) p q ↔ S σ) →
    has (union f σs) p q ↔ ((σ : ℕ) × (σ ∈ σs) × S σ)
unfolding union
has-union f [] p q same = (λ h. absurd (has-none p q h), λ c. absurd (Memᴰ.not-nil c.1))
has-union f {S} (x ∷ xs) p q same = (
  λ h. ⊎_elim (λ k. (x, Memᴰ.head refl, (same x).0 k)) (λ k. let c = (has-union f xs p q same).0 k in (c.0, Memᴰ.tail c.1, c.2))
      ((has-joined (f x) (union f xs) p q).0 h),
  λ c. (has-joined (f x) (union f xs) p q).1 (place (has-union f xs p q same).1 c.0 c.1 c.2),
)
  where
    place : ((σ : ℕ) × (σ ∈ xs) × S σ → has (union f xs) p q) → (σ : ℕ) → σ ∈ x ∷ xs → S σ → has (f x) p q ⊎ has (union f xs) p q
    place later σ (Memᴰ.head e) h = inl ((same x).1 (rw e at h))
    place later σ (Memᴰ.tail m) h = inr (later (σ, m, h))

within-union : {n : ℕ} (f : ℕ → List ℕ) (σs : List ℕ) → ((σ : ℕ) → Within n (f σ)) → Within n (union f σs)
unfolding union
within-union {n} f [] w = within_none n
within-union {n} f (x ∷ xs) w = within-joined n (f x) (union f xs) (w x) (within-union f xs w)

-- ---- the pairs, in terms of runs

-- The overloops of parts that two tables have.
abbrev pub Tabled : Parts → Side → ℕ → ℕ → Type 0
Tabled x = sides (has x.left) (has x.right)

module _ (A : Automaton) where
  abbrev pub WithinParts : Parts → Type 0
  WithinParts x = Within A.states x.left × Within A.states x.right

  -- A pair that a branch forms as a left or right part, the overloops of its own parts being those of x.
  abbrev pub Formed : Parts → Side → ℕ → ℕ → Type 0
  Formed x s p q = (σ : ℕ) × (σ ∈ (alphabet_of A).branches) × UpClosure (Δ A) (Child s) σ (Chain (Simple (Δ A) (Child s) σ (Tabled x))) p q

  -- A loop at the root of a leaf, and of a branch.
  abbrev pub LeafTop : ℕ → ℕ → Type 0
  LeafTop p q = (σ : ℕ) × (σ ∈ (alphabet_of A).leaves) × (Loop (Δ A) Root (leaf σ) p q × (q < A.states))

  abbrev pub BranchTop : Parts → ℕ → ℕ → Type 0
  BranchTop x p q = (σ : ℕ) × (σ ∈ (alphabet_of A).branches) × (Chain (Simple (Δ A) Root σ (Tabled x)) p q × (q < A.states))

  pub side-formed : (s : Side) (x : Parts) → side s (formed A x) ≡ formed_side A s x
  unfolding formed
  side-formed Left x = refl
  side-formed Right x = refl

-- ---- the tables have them

module _ (A : Automaton) (P : Proper A) where
  abbrev n : ℕ
  n = A.states

  pub has-leaf_side : (s : Side) (p q : ℕ) →
      has (leaf_side A s) p q ↔ ((σ : ℕ) × (σ ∈ (alphabet_of A).leaves) × Overloop (Δ A) (Child s) (leaf σ) p q)
  unfolding leaf_side
  has-leaf_side s p q = has-union (leaf_overloops A (Child s)) (alphabet_of A).leaves p q (λ σ. has-leaf_overloops A P (Child s) σ p q)

  pub within-leaf_side : (s : Side) → Within n (leaf_side A s)
  unfolding leaf_side
  within-leaf_side s = within-union (leaf_overloops A (Child s)) (alphabet_of A).leaves (within-leaf_overloops A P (Child s))

  module _ (x : Parts) (w : WithinParts A x) where
    pub within-side : (s : Side) → Within n (side s x)
    within-side Left = w.0
    within-side Right = w.1

    pub within-formed_side : (s : Side) → Within n (formed_side A s x)
    unfolding formed_side
    within-formed_side s =
        within-joined n (side s x) _ (within-side s)
        (within-union _ (alphabet_of A).branches (λ σ. within-node_overloops A P (Child s) σ x.left x.right w.0 w.1))

    pub within-formed : WithinParts A (formed A x)
    unfolding formed
    within-formed = (within-formed_side Left, within-formed_side Right)

    pub has-formed_side : (s : Side) (p q : ℕ) → has (formed_side A s x) p q ↔ (has (side s x) p q ⊎ Formed A x s p q)
    unfolding formed_side
    has-formed_side s p q =
        let e = has-joined (side s x) (union (λ σ. node_overloops A (Child s) σ x.left x.right) (alphabet_of A).branches) p q in
        let f = has-union (λ σ. node_overloops A (Child s) σ x.left x.right) (alphabet_of A).branches p q
        (λ σ. has-node_overloops A P (Child s) σ x.left x.right w.0 w.1 p q) in
        (λ h. ⊎_elim inl (λ k. inr (f.0 k)) (e.0 h), λ h. e.1 (⊎_elim inl (λ k. inr (f.1 k)) h))

    pub has-root_side : (p q : ℕ) → has (root_side A x) p q ↔ (LeafTop A p q ⊎ BranchTop A x p q)
    unfolding root_side
    has-root_side p q =
        let leaves = union (leaf_loops A Root) (alphabet_of A).leaves in
        let e = has-joined leaves (union (λ σ. node_loops A Root σ x.left x.right) (alphabet_of A).branches) p q in
        let f = has-union (leaf_loops A Root) (alphabet_of A).leaves p q (λ σ. has-leaf_loops A P Root σ p q) in
        let g = has-union (λ σ. node_loops A Root σ x.left x.right) (alphabet_of A).branches p q
        (λ σ. has-node_loops A P Root σ x.left x.right w.0 w.1 p q) in
        (λ h. ⊎_elim (λ k. inl (f.0 k)) (λ k. inr (g.0 k)) (e.0 h), λ h. e.1 (⊎_elim (λ k. inl (f.1 k)) (λ k. inr (g.1 k)) h))
