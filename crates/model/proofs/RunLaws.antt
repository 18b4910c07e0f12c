-- Chains, and runs inside a subtree as runs inside the tree and back.
use mathlib.Core.List.{◌++◌}
use Prim.Native.Nat.{ℕ}
use Rattle.model.specs.Places.{Place, Move}
use Rattle.model.specs.Trees.{Tree}
use Rattle.model.specs.Runs.{Position, place, At, Chain, done, ◌then◌, Transitions, Config, Step, stays, climbs, descends, Run}
use Rattle.model.specs.Overloops.{Below, deeper}
use Rattle.model.proofs.Positions.{at-append, place-append, relative, at-relative, place-relative, relative-unique}

-- One chain, then another.
infixr 20 ◌followed-by◌
pub ◌followed-by◌ : {A : Type 0} {R : A → A → Type 0} {a b c : A} → Chain R a b → Chain R b c → Chain R a c
done followed-by d = d
(x then c) followed-by d = x then (c followed-by d)

pub chain-map : {A B : Type 0} {R : A → A → Type 0} {S : B → B → Type 0} (f : A → B) →
    ((a b : A) → R a b → S (f a) (f b)) → {a b : A} → Chain R a b → Chain S (f a) (f b)
chain-map f g done = done
chain-map f g (x then c) = g _ _ x then chain-map f g c

-- With more transitions there are more steps.
pub step_map : {Δ Δ' : Transitions} → ((σ p : ℕ) (τ : Place) (μ : Move) (q : ℕ) → Δ σ p τ μ q → Δ' σ p τ μ q) →
    {τ : Place} {t : Tree} {c d : Config} → Step Δ τ t c d → Step Δ' τ t c d
step_map f (stays a d) = stays a (f _ _ _ _ _ d)
step_map f (climbs a d) = climbs a (f _ _ _ _ _ d)
step_map f (descends a d) = descends a (f _ _ _ _ _ d)

-- A configuration of the subtree at α, as one of the tree.
abbrev pub shift : Position → Config → Config
shift α c = (c.0 ++ α, c.1)

module _ (Δ : Transitions) where
  pub step-append : {τ : Place} {t u : Tree} {α : Position} {c d : Config} → At t α u →
      Step Δ (place τ α) u c d → Step Δ τ t (shift α c) (shift α d)
  step-append a (stays b d) = stays (at-append a b) (rw (← place-append) at d)
  step-append a (climbs b d) = climbs (at-append a b) d
  step-append a (descends b d) = descends (at-append a b) (rw (← place-append) at d)

  pub run-append : {τ : Place} {t u : Tree} {α : Position} {c d : Config} → At t α u →
      Run Δ (place τ α) u c d → Run Δ τ t (shift α c) (shift α d)
  run-append {α} a = chain-map (shift α) (λ c d x. step-append a x)

  -- A step from and to positions at or below α is a step inside the subtree at α.
  pub step-relative : {τ : Place} {t u : Tree} {α : Position} {c d : Config} → At t α u →
      (i : Below α c.0) (j : Below α d.0) → Step Δ τ t c d → Step Δ (place τ α) u (relative i, c.1) (relative j, d.1)
  step-relative {τ} a i j (stays e d) = rw (relative-unique j i) (stays (at-relative a i e) (rw (place-relative τ i) at d))
  step-relative a i j (climbs e d) = rw (relative-unique i (deeper j)) (climbs (at-relative a (deeper j) e) d)
  step-relative {τ} a i j (descends e d) =
      rw (relative-unique j (deeper i)) (descends (at-relative a i e) (rw (place-relative τ i) at d))
