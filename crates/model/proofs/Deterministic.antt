-- Deterministic automata: one successor (the paper's Lemma 24), hidden loops (Lemma 25), one overloop (Lemma 26).
use mathlib.Core.Path.{◌≡◌, refl}
use mathlib.Core.Logic.{◌⊎◌, inl, inr}
use mathlib.Core.List.{[], ◌∷◌}
use Prim.Native.Nat.{ℕ}
use native.Mathlib.Omega.{arith}
use Rattle.model.specs.Places.{Side, Place, Move, Stay, Up, Down}
use Rattle.model.specs.Trees.{Tree, symbol}
use Rattle.model.specs.Runs.{Position, place, At, top, Chain, done, ◌then◌, Transitions, Config, Step, stays, climbs, descends, Run, Loop}
use Rattle.model.specs.Runs.{Overloop, Deterministic}
use Rattle.model.proofs.Positions.{at-unique}

stay-not-up : Stay ≡ Up → ⊥
stay-not-up e = let z : ◌≡◌ {A = ℕ} 0 1 = cc in omega arith

down-not-up : {s : Side} → Down s ≡ Up → ⊥
down-not-up e = let z : ◌≡◌ {A = ℕ} 0 1 = cc in omega arith

-- Two chains of a functional relation from one place: one goes on from where the other ends.
chain-compare : {A : Type 0} {R : A → A → Type 0} {a b c : A} → ((x y z : A) → R x y → R x z → y ≡ z) →
    Chain R a b → Chain R a c → Chain R b c ⊎ Chain R c b
chain-compare f done d = inl d
chain-compare f (x then c) done = inr (x then c)
chain-compare f (x then c) (y then d) = chain-compare f c (rw (f _ _ _ x y) d)

-- Where a move leads.
after : Move → Position → Position
after Stay α = α
after Up [] = []
after Up (s ∷ α) = α
after (Down s) α = s ∷ α

module _ (Δ : Transitions) where
  -- A step, as its transition.
  step-transition : {τ : Place} {t : Tree} {c d : Config} → Step Δ τ t c d →
      (u : Tree) × (μ : Move) × At t c.0 u × Δ (symbol u) c.1 (place τ c.0) μ d.1 × (d.0 ≡ after μ c.0)
  unfolding after
  step-transition (stays a d) = (_, _, a, d, refl)
  step-transition (climbs a d) = (_, _, a, d, refl)
  step-transition (descends a d) = (_, _, a, d, refl)

  -- At the root, a transition up leaves no step inside the tree.
  no-step-inside : {τ : Place} {t : Tree} {p q : ℕ} {c : Config} → Deterministic Δ →
      Δ (symbol t) p τ Up q → Step Δ τ t ([], p) c → ⊥
  no-step-inside det u (stays top d) = stay-not-up (det.one_transition d u).0
  no-step-inside det u (descends top d) = down-not-up (det.one_transition d u).0

  module _ (det : Deterministic Δ) {τ : Place} {t : Tree} where
    -- Lemma 24.
    pub step-unique : (c d e : Config) → Step Δ τ t c d → Step Δ τ t c e → d ≡ e
    step-unique c d e x y =
        let (u, μ, a, k, h) = step-transition x in
        let (v, ν, b, l, i) = step-transition y in
        let k' : Δ (symbol v) c.1 (place τ c.0) μ d.1 = rw (at-unique a b) at k in
        let (f, g) = det.one_transition k' l in
        let j : d.0 ≡ e.0 = cc in
        λ n. (j n, g n)

    -- Lemma 25.
    pub hidden-loops : {p q q' : ℕ} → Loop Δ τ t p q → Loop Δ τ t p q' → Loop Δ τ t q q' ⊎ Loop Δ τ t q' q
    hidden-loops = chain-compare step-unique

    exit-unique : {c : Config} {m m' q q' : ℕ} → Run Δ τ t c ([], m) → Δ (symbol t) m τ Up q →
        Run Δ τ t c ([], m') → Δ (symbol t) m' τ Up q' → q ≡ q'
    exit-unique done u done u' = (det.one_transition u u').1
    exit-unique done u (y then d) u' = absurd (no-step-inside det u y)
    exit-unique (x then c) u done u' = absurd (no-step-inside det u' x)
    exit-unique (x then c) u (y then d) u' = exit-unique c u (rw (step-unique _ _ _ x y) d) u'

    -- Lemma 26.
    pub overloop-unique : {p q q' : ℕ} → Overloop Δ τ t p q → Overloop Δ τ t p q' → q ≡ q'
    overloop-unique (m, c, u) (m', c', u') = exit-unique c u c' u'
