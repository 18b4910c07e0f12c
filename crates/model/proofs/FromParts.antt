-- Overloops of a tree from the overloops of its parts (the paper's Theorem 12), and so from nothing else.
use mathlib.Core.Logic.{◌↔◌}
use Prim.Native.Nat.{ℕ}
use Rattle.model.specs.Places.{Side, Left, Right, Place, Child}
use Rattle.model.specs.Trees.{Tree, leaf, node}
use Rattle.model.specs.Runs.{Chain, Transitions, Loop, UpClosure, Overloop, PartOverloop, Here, Simple, loop_here, loop_down}
use Rattle.model.proofs.RunLaws.{chain-map}
use Rattle.model.proofs.Loops.{loop-leaf, loop-node}

-- Two relations of states hold of the same pairs.
abbrev pub Same : (L M : ℕ → ℕ → Type 0) → Type 0
Same L M = (p q : ℕ) → L p q ↔ M p q

-- A relation for each side.
abbrev pub sides : (L R : ℕ → ℕ → Type 0) → Side → ℕ → ℕ → Type 0
sides L R Left = L
sides L R Right = R

module _ (Δ : Transitions) where
  up_same : {τ : Place} {σ : ℕ} {L M : ℕ → ℕ → Type 0} → Same L M → Same (UpClosure Δ τ σ L) (UpClosure Δ τ σ M)
  up_same e p q = (λ (m, a, u). (m, (e p m).0 a, u), λ (m, a, u). (m, (e p m).1 a, u))

  pub simple-map : {τ : Place} {σ : ℕ} {X Y : Side → ℕ → ℕ → Type 0} → ((s : Side) (a b : ℕ) → X s a b → Y s a b) →
      (p q : ℕ) → Simple Δ τ σ X p q → Simple Δ τ σ Y p q
  simple-map f p q (loop_here d) = loop_here d
  simple-map f p q (loop_down s d x) = loop_down s d (f s _ _ x)

  pub overloop-leaf : {τ : Place} {σ : ℕ} → Same (Overloop Δ τ (leaf σ)) (UpClosure Δ τ σ (Chain (Here Δ τ σ)))
  overloop-leaf = up_same (λ p q. loop-leaf Δ)

  -- At a node whose parts have the overloops X.
  module _ {l r : Tree} {X : Side → ℕ → ℕ → Type 0} (parts : (s : Side) → Same (PartOverloop Δ l r s) (X s)) where
    pub loop-node-by : {τ : Place} {σ : ℕ} → Same (Loop Δ τ (node σ l r)) (Chain (Simple Δ τ σ X))
    loop-node-by p q = (
      λ c. chain-map (λ n. n) (simple-map (λ s a b. (parts s a b).0)) ((loop-node Δ).0 c),
      λ c. (loop-node Δ).1 (chain-map (λ n. n) (simple-map (λ s a b. (parts s a b).1)) c),
    )

    pub overloop-node : {τ : Place} {σ : ℕ} → Same (Overloop Δ τ (node σ l r)) (UpClosure Δ τ σ (Chain (Simple Δ τ σ X)))
    overloop-node = up_same loop-node-by

  -- What the paper computes from the bottom up before Theorem 12; the theorem is `overloop-computed`.
  abbrev pub Computed : Place → Tree → ℕ → ℕ → Type 0
  Computed τ (leaf σ) = UpClosure Δ τ σ (Chain (Here Δ τ σ))
  Computed τ (node σ l r) = UpClosure Δ τ σ (Chain (Simple Δ τ σ (sides (Computed (Child Left) l) (Computed (Child Right) r))))

  pub parts-by : {l r : Tree} {L R : ℕ → ℕ → Type 0} → Same (Overloop Δ (Child Left) l) L → Same (Overloop Δ (Child Right) r) R →
      (s : Side) → Same (PartOverloop Δ l r s) (sides L R s)
  parts-by e f Left = e
  parts-by e f Right = f

  pub overloop-computed : (τ : Place) (t : Tree) → Same (Overloop Δ τ t) (Computed τ t)
  overloop-computed τ (leaf σ) = overloop-leaf
  overloop-computed τ (node σ l r) =
      overloop-node (parts-by (overloop-computed (Child Left) l) (overloop-computed (Child Right) r))
