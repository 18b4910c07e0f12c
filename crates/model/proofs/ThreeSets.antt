-- The sets of the paper's Algorithm 3 in its own form: three sets of pairs (root, left, right) over the escaped automaton of Definition 13,
-- in which a final state is one more way up from the root. Sets hold what `Approximation` asks just where they hold what this asks.
use mathlib.Core.Path.{◌≡◌, refl}
use mathlib.Core.Logic.{◌↔◌}
use Prim.Native.Nat.{ℕ}
use Rattle.model.specs.Places.{Side, Place, Root, Child, Up}
use Rattle.model.specs.Trees.{Tree, leaf}
use Rattle.model.specs.Runs.{Chain, Transitions, Loop, UpClosure, Overloop, Simple, loop_here, loop_down}
use Rattle.model.specs.Lists.{◌∈◌}
use Rattle.model.specs.Counting.{Alphabet}
use Rattle.model.proofs.RunLaws.{chain-map, step_map}
use Rattle.model.proofs.Escape.{Escaped, old, escape, old-stay, old-up, old-down, step-old}
use Rattle.model.specs.Approximation.{Holds}

module _ (Δ : Transitions) (S : Alphabet) (F : ℕ → Type 0) (over : ℕ) where
  -- The escaped automaton; `over` is the paper's overfinal state ✓.
  abbrev Δ' : Transitions
  Δ' = Escaped Δ F over

  -- The three sets X (the paper's ℒ★, ℒ₀ and ℒ₁) hold the overloops of all leaves and, for every branch symbol and place, the pairs that
  -- Algorithm 3 forms with the left and right sets for its parts.
  pub record HoldsPairs (X : Place → ℕ → ℕ → Type 0) : Type 0 where
    pub leaves : (τ : Place) (σ p q : ℕ) → σ ∈ S.leaves → Overloop (Escaped Δ F over) τ (leaf σ) p q → X τ p q
    pub branches : (τ : Place) (σ p q : ℕ) → σ ∈ S.branches →
        UpClosure (Escaped Δ F over) τ σ (Chain (Simple (Escaped Δ F over) τ σ (λ s. X (Child s)))) p q → X τ p q

  module _ (P : Side → ℕ → ℕ → Type 0) (R : ℕ → Type 0) where
    -- The pairs of the sets P and R: in the root set, (p, ✓) for each p of R.
    abbrev pub pairs_of : Place → ℕ → ℕ → Type 0
    pairs_of Root p q = (q ≡ over) × R p
    pairs_of (Child s) p q = P s p q

    loop_old : {τ : Place} {t : Tree} {p q : ℕ} → Loop Δ' τ t p q → Loop Δ τ t p q
    loop_old = chain-map (λ c. c) (λ c d. step-old Δ F over)

    loop-new : {τ : Place} {t : Tree} {p q : ℕ} → Loop Δ τ t p q → Loop Δ' τ t p q
    loop-new = chain-map (λ c. c) (λ c d. step_map (λ σ p τ μ q. old))

    simple-old : {τ : Place} {σ : ℕ} (p q : ℕ) → Simple Δ' τ σ (λ s. pairs_of (Child s)) p q → Simple Δ τ σ P p q
    simple-old p q (loop_here d) = loop_here (old-stay Δ F over d)
    simple-old p q (loop_down s d x) = loop_down s (old-down Δ F over d) x

    simple-new : {τ : Place} {σ : ℕ} (p q : ℕ) → Simple Δ τ σ P p q → Simple Δ' τ σ (λ s. pairs_of (Child s)) p q
    simple-new p q (loop_here d) = loop_here (old d)
    simple-new p q (loop_down s d x) = loop_down s (old d) x

    pairs-hold : HoldsPairs pairs_of → Holds Δ S F P R
    pairs-hold h =
        record {
          leaf_part = λ s σ p q m (k, c, u). h.leaves (Child s) σ p q m (k, loop-new c, old u);
          node_part = λ s σ p q m (k, c, u). h.branches (Child s) σ p q m (k, chain-map (λ n. n) simple-new c, old u);
          leaf_top = λ σ p f m c e. (h.leaves Root σ p over m (f, loop-new c, escape e)).1;
          node_top = λ σ p f m c e. (h.branches Root σ p over m (f, chain-map (λ n. n) simple-new c, escape e)).1;
        }

    module _ (no-exit : (σ p q : ℕ) → Δ σ p Root Up q → ⊥) where
      -- The way up from the root is the new one: the automaton itself has none (refusal 9).
      way_up : {σ p q : ℕ} → Δ' σ p Root Up q → F p × (q ≡ over)
      way_up (old d) = absurd (no-exit _ _ _ d)
      way_up (escape f) = (f, refl)

      holds-pairs : Holds Δ S F P R → HoldsPairs pairs_of
      holds-pairs h = record { leaves = at_leaf; branches = at-branch }
        where
          at_leaf : (τ : Place) (σ p q : ℕ) → σ ∈ S.leaves → Overloop Δ' τ (leaf σ) p q → pairs_of τ p q
          at_leaf Root σ p q m (k, c, u) = let w = way_up u in (w.1, h.leaf_top σ p k m (loop_old c) w.0)
          at_leaf (Child s) σ p q m (k, c, u) = h.leaf_part s σ p q m (k, loop_old c, old-up Δ F over u)

          at-branch : (τ : Place) (σ p q : ℕ) → σ ∈ S.branches →
              UpClosure Δ' τ σ (Chain (Simple Δ' τ σ (λ s. pairs_of (Child s)))) p q → pairs_of τ p q
          at-branch Root σ p q m (k, c, u) = let w = way_up u in (w.1, h.node_top σ p k m (chain-map (λ n. n) simple-old c) w.0)
          at-branch (Child s) σ p q m (k, c, u) = h.node_part s σ p q m (k, chain-map (λ n. n) simple-old c, old-up Δ F over u)

      -- The two forms come to the same.
      pub three-sets : Holds Δ S F P R ↔ HoldsPairs pairs_of
      three-sets = (holds-pairs, pairs-hold)
