-- The loops of a leaf and of a node (the paper's Lemma 3 and Theorem 5), in terms of the overloops of the node's parts.
use mathlib.Core.Logic.{◌↔◌}
use mathlib.Core.List.{[], ◌∷◌}
use Prim.Native.Nat.{ℕ}
use Rattle.model.specs.Places.{Side, Place, Child, Up}
use Rattle.model.specs.Trees.{Tree, leaf, node, symbol, part}
use Rattle.model.specs.Runs.{Position, top, Chain, done, ◌then◌, Transitions, Config, Step, stays, climbs, descends, Run, Loop, PartOverloop}
use Rattle.model.specs.Runs.{Here, Simple, loop_here, loop_down}
use Rattle.model.specs.Overloops.{Below, same, deeper}
use Rattle.model.proofs.Positions.{at-unique, at_part, leaf-has-no-parts, relative, root-not-below}
use Rattle.model.proofs.RunLaws.{◌followed-by◌, chain-map, run-append, step-relative}

-- Where a position of a node lies: at its root, or in one of its parts.
data Spot : Position → Type 0 where
  at-root : Spot []
  in-part : {β : Position} (s : Side) → Below (s ∷ []) β → Spot β

module _ (Δ : Transitions) where
  leaf-to-chain : {τ : Place} {σ p q : ℕ} → Loop Δ τ (leaf σ) p q → Chain (Here Δ τ σ) p q
  leaf-to-chain done = done
  leaf-to-chain (stays top d then r) = d then leaf-to-chain r
  leaf-to-chain (descends a d then r) = absurd (leaf-has-no-parts a)

  pub loop-leaf : {τ : Place} {σ p q : ℕ} → Loop Δ τ (leaf σ) p q ↔ Chain (Here Δ τ σ) p q
  loop-leaf = (leaf-to-chain, chain-map (λ p. ([], p)) (λ p q d. stays top d))

  module _ (τ : Place) (σ : ℕ) (l r : Tree) where
    abbrev Loops : ℕ → ℕ → Type 0
    Loops = Chain (Simple Δ τ σ (PartOverloop Δ l r))

    chain-to-node : {p q : ℕ} → Loops p q → Loop Δ τ (node σ l r) p q
    chain-to-node done = done
    chain-to-node (loop_here d then c) = stays top d then chain-to-node c
    chain-to-node (loop_down s d (m, e, u) then c) =
        descends top d then run-append Δ (at_part s) e followed-by climbs (at_part s) u then chain-to-node c

    -- From the configuration c of the part s: a run to the part's root, a transition up, and a chain at the node.
    abbrev Out : Side → Config → ℕ → Type 0
    Out s c q = (m n : ℕ) × Run Δ (Child s) (part s l r) c ([], m) × Δ (symbol (part s l r)) m (Child s) Up n × Loops n q

    first : {s : Side} {c d : Config} {q : ℕ} → Step Δ (Child s) (part s l r) c d → Out s d q → Out s c q
    first x (m, n, e, u, k) = (m, n, x then e, u, k)

    -- What a run to the root of the node is made of, by where it starts.
    abbrev Rest : {β : Position} → Spot β → ℕ → ℕ → Type 0
    Rest at-root p q = Loops p q
    Rest (in-part s b) p q = Out s (relative b, p) q

    rest : {p q : ℕ} {β : Position} → Run Δ τ (node σ l r) (β, p) ([], q) → (v : Spot β) → Rest v p q
    rest done at-root = done
    rest done (in-part s b) = absurd (root-not-below b)
    rest (stays top d then c) at-root = loop_here d then rest c at-root
    rest (stays a d then c) (in-part s b) = first (step-relative Δ (at_part s) b b (stays a d)) (rest c (in-part s b))
    rest (descends {s = s} top d then c) at-root =
        let (m, n, e, u, k) = rest c (in-part s same) in
        loop_down s d (m, e, u) then k
    rest (descends a d then c) (in-part s b) =
        first (step-relative Δ (at_part s) b (deeper b) (descends a d)) (rest c (in-part s (deeper b)))
    rest (climbs a d then c) (in-part s same) = (_, _, done, rw (at-unique a (at_part s)) at d, rest c at-root)
    rest (climbs a d then c) (in-part s (deeper b)) =
        first (step-relative Δ {τ = τ} (at_part s) (deeper b) b (climbs a d)) (rest c (in-part s b))

  pub loop-node : {τ : Place} {σ p q : ℕ} {l r : Tree} →
      Loop Δ τ (node σ l r) p q ↔ Chain (Simple Δ τ σ (PartOverloop Δ l r)) p q
  loop-node = (λ c. rest _ _ _ _ c at-root, chain-to-node _ _ _ _)
