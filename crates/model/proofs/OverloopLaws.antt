-- Loops and overloops at a position, as the paper defines them, are the loops and overloops of the subtree there.
use mathlib.Core.Path.{◌≡◌, refl}
use mathlib.Core.Logic.{◌↔◌}
use mathlib.Core.List.{[], ◌∷◌}
use Prim.Native.Nat.{ℕ}
use Rattle.model.specs.Places.{Side, Place, Child, Up}
use Rattle.model.specs.Trees.{Tree, symbol}
use Rattle.model.specs.Runs.{Position, place, At, top, at_left, at_right, Chain, done, ◌then◌, Transitions, Config, stays, climbs, descends}
use Rattle.model.specs.Runs.{Run, Loop, Overloop}
use Rattle.model.specs.Overloops.{Below, same, deeper, StepBelow, LoopAt, StepToParent, to_overroot, to_parent, OverloopAt}
use Rattle.model.proofs.Positions.{at-unique, relative, relative-unique, parent-not-below, below-append}
use Rattle.model.proofs.RunLaws.{chain-map, shift, step-append, step-relative}
use Rattle.model.proofs.FromParts.{Computed, overloop-computed}

module _ (Δ : Transitions) where
  -- A step from at or below s ∷ α to its parent is a transition up at s ∷ α itself.
  climb-out : {t u v : Tree} {s s' : Side} {α β : Position} {p q : ℕ} → α ≡ β → (i : Below (s ∷ α) (s' ∷ β)) →
      At t (s ∷ α) u → At t (s' ∷ β) v → Δ (symbol v) p (Child s') Up q → (relative i ≡ []) × Δ (symbol u) p (Child s) Up q
  climb-out e same a b d = (refl, rw (at-unique b a) at d)
  climb-out e (deeper i) a b d = absurd (parent-not-below (rw e at i))

  last-transition : {τ : Place} {t u : Tree} {α : Position} {c : Config} {q : ℕ} → At t α u → (i : Below α c.0) →
      StepToParent Δ τ t α c q → (relative i ≡ []) × Δ (symbol u) c.1 (place τ α) Up q
  last-transition a i (to_overroot d) = (relative-unique i same, rw (at-unique top a) at d)
  last-transition a i (to_parent (stays b d)) = absurd (parent-not-below i)
  last-transition a i (to_parent (climbs b d)) = climb-out refl i a b d
  last-transition a i (to_parent (descends b d)) = absurd (parent-not-below (deeper i))

  step-to-parent : {τ : Place} {t u : Tree} {α : Position} {m q : ℕ} → At t α u →
      Δ (symbol u) m (place τ α) Up q → StepToParent Δ τ t α (α, m) q
  step-to-parent top d = to_overroot d
  step-to-parent (at_left a) d = to_parent (climbs (at_left a) d)
  step-to-parent (at_right a) d = to_parent (climbs (at_right a) d)

  module _ {τ : Place} {t u : Tree} {α : Position} (a : At t α u) where
    run-to-below : {c d : Config} → Run Δ (place τ α) u c d → Chain (StepBelow Δ τ t α) (shift α c) (shift α d)
    run-to-below = chain-map (shift α) (λ c d x. (step-append Δ a x, below-append α d.0))

    below-to-run : {c d : Config} (i : Below α c.0) (j : Below α d.0) → Chain (StepBelow Δ τ t α) c d →
        Run Δ (place τ α) u (relative i, c.1) (relative j, d.1)
    below-to-run i j done = rw (relative-unique i j) done
    below-to-run i j ((x, k) then c) = step-relative Δ a i k x then below-to-run k j c

    end_below : {c d : Config} → Below α c.0 → Chain (StepBelow Δ τ t α) c d → Below α d.0
    end_below i done = i
    end_below i ((x, k) then c) = end_below k c

    -- The paper's Definition 1.
    pub loop-at : {p q : ℕ} → LoopAt Δ τ t α p q ↔ Loop Δ (place τ α) u p q
    loop-at = (below-to-run same same, run-to-below)

    -- The paper's Definition 9.
    pub overloop-at : {p q : ℕ} → OverloopAt Δ τ t α p q ↔ Overloop Δ (place τ α) u p q
    overloop-at = (
      λ (c, r, x).
          let j = end_below same r in
          let (e, d) = last-transition a j x in
          (c.1, rw e at (below-to-run same j r), d),
      λ (m, r, d). ((α, m), run-to-below r, step-to-parent a d),
    )

    -- The paper's Theorem 12.
    pub overloop-at-computed : {p q : ℕ} → OverloopAt Δ τ t α p q ↔ Computed Δ (place τ α) u p q
    overloop-at-computed {p} {q} =
        let e = overloop-computed Δ (place τ α) u p q in
        (λ c. e.0 (overloop-at.0 c), λ c. overloop-at.1 (e.1 c))
