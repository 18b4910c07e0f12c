-- The escaped automaton (the paper's Definition 13), and acceptance by an overloop of it (Corollary 14).
use mathlib.Core.Logic.{◌↔◌}
use mathlib.Core.Path.{◌≡◌, refl}
use Prim.Native.Nat.{ℕ}
use Rattle.model.specs.Places.{Side, Place, Root, Child, Move, Stay, Up, Down}
use Rattle.model.specs.Trees.{Tree}
use Rattle.model.specs.Runs.{Transitions, Config, Step, stays, climbs, descends, Accepts, Overloop}
use Rattle.model.proofs.RunLaws.{chain-map, step_map}

-- The paper's Definition 13: the transitions Δ, and one more, from a final state up from the root of the tree to the overfinal state `over`.
pub data Escaped (Δ : Transitions) (F : ℕ → Type 0) (over : ℕ) : ℕ → ℕ → Place → Move → ℕ → Type 0 where
  old : {σ p q : ℕ} {τ : Place} {μ : Move} → Δ σ p τ μ q → Escaped Δ F over σ p τ μ q
  escape : {σ p : ℕ} → F p → Escaped Δ F over σ p Root Up over

module _ (Δ : Transitions) (F : ℕ → Type 0) (over : ℕ) where
  -- The new transition makes no step inside a tree.
  pub old-stay : {σ p q : ℕ} {τ : Place} → Escaped Δ F over σ p τ Stay q → Δ σ p τ Stay q
  old-stay (old d) = d

  pub old-up : {σ p q : ℕ} {s : Side} → Escaped Δ F over σ p (Child s) Up q → Δ σ p (Child s) Up q
  old-up (old d) = d

  pub old-down : {σ p q : ℕ} {τ : Place} {s : Side} → Escaped Δ F over σ p τ (Down s) q → Δ σ p τ (Down s) q
  old-down (old d) = d

  pub step-old : {τ : Place} {t : Tree} {c d : Config} → Step (Escaped Δ F over) τ t c d → Step Δ τ t c d
  step-old (stays a d) = stays a (old-stay d)
  step-old (climbs a d) = climbs a (old-up d)
  step-old (descends a d) = descends a (old-down d)

  module _ (fresh : (σ p : ℕ) → Δ σ p Root Up over → ⊥) where
    final_at : {σ p q : ℕ} → q ≡ over → Escaped Δ F over σ p Root Up q → F p
    final_at e (old d) = absurd (fresh _ _ (rw e at d))
    final_at e (escape f) = f

    final : {σ p : ℕ} → Escaped Δ F over σ p Root Up over → F p
    final d = final_at refl d

    -- Corollary 14, where no transition of Δ goes up from the root into `over`.
    pub accepts-escaped : {I : ℕ → Type 0} {t : Tree} →
        Accepts Δ I F t ↔ ((i : ℕ) × I i × Overloop (Escaped Δ F over) Root t i over)
    accepts-escaped = (
      λ (i, f, a, b, c). (i, a, (f, chain-map (λ c. c) (λ c d. step_map (λ σ p τ μ q. old)) c, escape b)),
      λ (i, a, (m, c, d)). (i, m, a, final d, chain-map (λ c. c) (λ c d. step-old) c),
    )
