-- The spread rules of a file are the transitions of its automaton, each at one place (`spread-has`, `spread-transition`). Assumes nothing.
use Rattle.std.proofs.Common.{Option, Some, None}
use Prim.Native.Nat.{ℕ, zero, suc, ◌<◌}
use mathlib.Core.Path.{◌≡◌, refl, sym, ap, subst, ◌∙◌}
use mathlib.Core.Logic.{⊎_elim, ◌↔◌}
use mathlib.Core.List.Memᴰ
use mathlib.Core.List.{List, [], ◌∷◌, ◌++◌, map}
use native.Mathlib.Decide.{dec_lt}
use native.Mathlib.Omega.{arith}
use Rattle.model.specs.declared.Side.{Side}
use Rattle.model.specs.declared.Place.{Place}
use Rattle.model.specs.declared.Move.{Move}
use Rattle.model.specs.Lists.{◌∈◌}
use Rattle.algorithms.specs.Automaton.{Δ}
use Rattle.automaton.specs.Rules.{rule, rule_at}
use Rattle.automaton.specs.declared.Header.{Header}
use Rattle.automaton.specs.declared.Rule.{Rule}
use Rattle.automaton.specs.declared.Scope.{Scope}
use Rattle.transitions.specs.Transitions.{Covers, Applies, Allowed, automaton_of}
use Rattle.transitions.specs.Spread.{places_of, at_place, spread, spread_first, spread_rules}
use Rattle.transitions.proofs.Meaning.{transition-has}

-- ---- one rule

pub rule-same : (a b : Rule) → a.symbol.0 ≡ b.symbol.0 → a.state.0 ≡ b.state.0 → a.scope ≡ b.scope → a.step ≡ b.step → a.next.0 ≡ b.next.0 → a ≡ b
rule-same a b e f g k l = λ i. rule (e i) (f i) (g i) (k i) (l i)

mem-cover : (t : Scope) (τ : Place) → Covers t τ → τ ∈ places_of t
mem-cover (Scope.Only π) τ c = Memᴰ.head (sym c)
mem-cover Scope.Every Place.Root c = Memᴰ.head refl
mem-cover Scope.Every (Place.Child Side.Left) c = Memᴰ.tail (Memᴰ.head refl)
mem-cover Scope.Every (Place.Child Side.Right) c = Memᴰ.tail (Memᴰ.tail (Memᴰ.head refl))

cover-mem : (t : Scope) (τ : Place) → τ ∈ places_of t → Covers t τ
cover-mem (Scope.Only π) τ m = ⊎_elim sym (λ k. absurd (Memᴰ.not-nil k)) (Memᴰ.cases_cons m)
cover-mem Scope.Every τ m = tt

module _ (s r : Rule) where
  mem-places : (τs : List Place) (τ : Place) → τ ∈ τs → r ≡ at_place s τ → r ∈ map (at_place s) τs
  mem-places [] τ m k = elim m [ ]
  mem-places (π ∷ τs) τ (Memᴰ.head e) k = Memᴰ.head (k ∙ ap (at_place s) e)
  mem-places (π ∷ τs) τ (Memᴰ.tail m) k = Memᴰ.tail (mem-places τs τ m k)

  of_places : (τs : List Place) → r ∈ map (at_place s) τs → (τ : Place) × (τ ∈ τs) × (r ≡ at_place s τ)
  of_places [] m = absurd (Memᴰ.not-nil m)
  of_places (π ∷ τs) (Memᴰ.head e) = (π, Memᴰ.head refl, e)
  of_places (π ∷ τs) (Memᴰ.tail m) = let k = of_places τs m in (k.0, Memᴰ.tail k.1, k.2)

  -- r is s at a place that s covers
  spread-applies : (r ∈ spread (Some s)) → (τ : Place) × (r.scope ≡ Scope.Only τ) × Applies s r.symbol.0 r.state.0 τ r.step r.next.0
  spread-applies m =
      let k = of_places (places_of s.scope) m in
      let e = k.2 in (
        k.0,
        ap (λ (x : Rule). x.scope) e,
        (
          sym (ap (λ (x : Rule). x.symbol.0) e),
          sym (ap (λ (x : Rule). x.state.0) e),
          cover-mem s.scope k.0 k.1,
          sym (ap (λ (x : Rule). x.step) e),
          sym (ap (λ (x : Rule). x.next.0) e),
        ),
      )

  applies-spread : (τ : Place) → r.scope ≡ Scope.Only τ → Applies s r.symbol.0 r.state.0 τ r.step r.next.0 → r ∈ spread (Some s)
  applies-spread τ e (a, b, c, d, f) = mem-places (places_of s.scope) τ (mem-cover s.scope τ c) (rule-same r (at_place s τ) (sym a) (sym b) e (sym d) (sym f))

-- ---- the records one by one

-- a rule stands at one place, and some record of the first n allows it there
abbrev pub OneOf : Header → List ℕ → (n : ℕ) → Rule → Type 0
OneOf h content n r = (τ : Place) × (r.scope ≡ Scope.Only τ) × Allowed h content n r.symbol.0 r.state.0 τ r.step r.next.0

module _ (h : Header) (content : List ℕ) (r : Rule) where
  later : (n : ℕ) → OneOf h content n r → OneOf h content (suc n) r
  later n (τ, e, a) = (τ, e, record { i = a.i; below = omega (arith, a.below); rule = a.rule; known = a.known; applies = a.applies })

  last : (n : ℕ) (bytes : Option Rule) → rule_at h content n ≡ bytes → r ∈ spread bytes → OneOf h content (suc n) r
  last n None e m = absurd (Memᴰ.not-nil m)
  last n (Some s) e m =
      let k = spread-applies s r m in
      (k.0, k.1, record { i = n; below = omega arith; rule = s; known = e; applies = k.2 })

  of-first : (n : ℕ) → r ∈ spread_first h content n → OneOf h content n r
  unfolding spread_first
  of-first zero m = absurd (Memᴰ.not-nil m)
  of-first (suc n) m = ⊎_elim (λ k. later n (of-first n k)) (λ k. last n (rule_at h content n) refl k) (Memᴰ.append_cases (spread_first h content n) m)

  to-first : (n : ℕ) → OneOf h content n r → r ∈ spread_first h content n
  unfolding spread_first
  to-first zero o = absurd (omega (arith, o.2.below))
  to-first (suc n) o = by (dec_lt o.2.i n) (to-first n)
    where
      by : Dec (o.2.i < n) → (OneOf h content n r → r ∈ spread_first h content n) → r ∈ spread_first h content n ++ spread (rule_at h content n)
      by (yes l) earlier =
          let a = o.2 in
          Memᴰ.append_left _ (earlier (o.0, o.1, record { i = a.i; below = l; rule = a.rule; known = a.known; applies = a.applies }))
      by (no l) earlier =
          let a = o.2 in
          let same : a.i ≡ n = omega (arith, a.below) in
          let known : rule_at h content n ≡ Some a.rule = rw same at a.known in
          Memᴰ.append_right (spread_first h content n) (subst (λ (bytes : Option Rule). r ∈ spread bytes) (sym known) (applies-spread a.rule r o.0 o.1 a.applies))

  pub spread-has : (n : ℕ) → (r ∈ spread_first h content n) ↔ OneOf h content n r
  spread-has n = (of-first n, to-first n)

-- ---- the automaton's transitions

-- a transition is a spread rule ..
pub spread-transition : (h : Header) (content : List ℕ) (σ p : ℕ) (τ : Place) (μ : Move) (q : ℕ)
    → (rule σ p (Scope.Only τ) μ q ∈ spread_rules h content) ↔ Δ (automaton_of h content) σ p τ μ q
spread-transition h content σ p τ μ q =
    let has = spread-has h content (rule σ p (Scope.Only τ) μ q) h.rules in
    let allowed = transition-has h content σ p τ μ q in (
      λ m. let k = has.0 m in let same : k.0 ≡ τ = cc k.1 in allowed.1 (rw same at k.2),
      λ d. has.1 (τ, refl, allowed.0 d),
    )

-- .. and each spread rule is one
abbrev pub IsTransition : Header → List ℕ → Rule → Type 0
IsTransition h content r = (τ : Place) × (r.scope ≡ Scope.Only τ) × Δ (automaton_of h content) r.symbol.0 r.state.0 τ r.step r.next.0

pub spread-rule : (h : Header) (content : List ℕ) (r : Rule) → r ∈ spread_rules h content → IsTransition h content r
spread-rule h content r m =
    let k = (spread-has h content r h.rules).0 m in
    (k.0, k.1, (transition-has h content _ _ k.0 _ _).1 k.2)
