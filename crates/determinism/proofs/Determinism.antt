-- Single automata, in three ways that are one: no two spread rules for a symbol, a state and a place (`single-has`), the paper's Definition 19
-- (`single-deterministic`), and what the compiled transitions tell (`single-determined`, `table-determined`). Assumes nothing.
use Prim.Native.Nat.{ℕ, zero, suc, ◌+◌, ◌<◌, ◌≤◌}
use mathlib.Core.Path.{◌≡◌, refl, sym, ap, ap₂, subst, ◌∙◌}
use mathlib.Core.Logic.{◌⊎◌, inl, inr, ⊎_elim, ◌↔◌}
use mathlib.Core.Bool.{Bool, true, false, ◌&&◌}
use mathlib.Core.List.Memᴰ
use mathlib.Core.List.{List, [], ◌∷◌}
use native.Mathlib.Omega.{arith}
use borrow.Author.Tests.{eqb-true, eq-eqb, leb-true, le-leb}
use lib.Count.{ones}
use lib.Dec.{eqb, leb}
use Rattle.relation.specs.Rows.{has, bits_of, count_of}
use Rattle.relation.proofs.BitLaws.{bit-zero, lt-of-bits}
use Rattle.relation.proofs.Counts.{Words, count-one}
use Rattle.relation.proofs.Turns.{ones-bits}
use Rattle.model.specs.declared.Side.{Side}
use Rattle.model.specs.declared.Place.{Place}
use Rattle.model.specs.declared.Move.{Move}
use Rattle.model.specs.declared.State.{State}
use Rattle.model.specs.declared.Symbol.{Symbol}
use Rattle.model.specs.Lists.{◌∈◌}
use Rattle.model.specs.Runs.{Deterministic}
use Rattle.algorithms.specs.Automaton.{Automaton, Δ}
use Rattle.refusal.proofs.Passed.{and-is-true}
use Rattle.automaton.specs.Payload.{place_byte, move_byte}
use Rattle.automaton.specs.Rules.{rule}
use Rattle.automaton.specs.declared.Header.{Header}
use Rattle.automaton.specs.declared.Rule.{Rule}
use Rattle.automaton.specs.declared.Scope.{Scope}
use Rattle.automaton.proofs.Bytes.{same-scope, same_move}
use Rattle.automaton.proofs.Passed.{rule-in}
use Rattle.transitions.specs.Transitions.{automaton_of}
use Rattle.transitions.specs.Compiled.{Compiled, Next, next_in}
use Rattle.transitions.specs.Spread.{spread_rules}
use Rattle.determinism.specs.Single.{Single, meet, equal, agree, agrees_with, single}
use Rattle.determinism.specs.Determined.{choices, one_choice, one_each, one_places, one_symbols, determined}
use Rattle.determinism.proofs.Each.{each-has, each_same}
use Rattle.transitions.proofs.Meaning.{transition-has}
use Rattle.transitions.proofs.Spreading.{rule-same, spread-transition, IsTransition, spread-rule}

-- ---- two rules

-- they have the same symbol, state and place
record Meeting (a b : Rule) : Type 0 where
  symbol : a.symbol.0 ≡ b.symbol.0
  state : a.state.0 ≡ b.state.0
  scope : a.scope ≡ b.scope

module _ (a b : Rule) where
  meeting : meet a b ≡ true → Meeting a b
  meeting e =
      let x = and-is-true (eqb a.symbol.0 b.symbol.0 && eqb a.state.0 b.state.0) (eqb (place_byte a.scope) (place_byte b.scope)) e in
      let y = and-is-true (eqb a.symbol.0 b.symbol.0) (eqb a.state.0 b.state.0) x.0 in
      record { symbol = eqb-true _ _ y.0; state = eqb-true _ _ y.1; scope = same-scope a.scope b.scope (eqb-true _ _ x.1) }

  meets : Meeting a b → meet a b ≡ true
  meets m = simp (eq-eqb _ _ m.symbol, eq-eqb _ _ m.state, eq-eqb _ _ (ap place_byte m.scope))

  equal_is : equal a b ≡ true → a ≡ b
  equal_is e =
      let x = and-is-true (meet a b && eqb (move_byte a.step) (move_byte b.step)) (eqb a.next.0 b.next.0) e in
      let y = and-is-true (meet a b) (eqb (move_byte a.step) (move_byte b.step)) x.0 in
      let m = meeting y.0 in
      rule-same a b m.symbol m.state m.scope (same_move a.step b.step (eqb-true _ _ y.1)) (eqb-true _ _ x.1)

  is-equal : a ≡ b → equal a b ≡ true
  is-equal e =
      let m : meet a b ≡ true = meets (record { symbol = ap (λ (r : Rule). r.symbol.0) e; state = ap (λ (r : Rule). r.state.0) e; scope = ap (λ (r : Rule). r.scope) e }) in
      ap₂ ◌&&◌ (ap₂ ◌&&◌ m (eq-eqb _ _ (ap (λ (r : Rule). move_byte r.step) e))) (eq-eqb _ _ (ap (λ (r : Rule). r.next.0) e))

  one-agrees : (Meeting a b → a ≡ b) → agree a b ≡ true
  one-agrees h = by (meet a b) refl
    where
      by : (t : Bool) → meet a b ≡ t → agree a b ≡ true
      by true e = rw e (rw e at (is-equal (h (meeting e))))
      by false e = rw e

  agree-one : agree a b ≡ true → Meeting a b → a ≡ b
  agree-one e m = equal_is (rw (meets m) (rw (meets m) at e))

-- ---- a list of rules

module _ (r : Rule) where
  of-agrees : (rules : List Rule) → agrees_with r rules ≡ true → (s : Rule) → s ∈ rules → agree r s ≡ true
  unfolding agrees_with
  of-agrees [] e s m = absurd (Memᴰ.not-nil m)
  of-agrees (t ∷ rules) e s m =
      let both = and-is-true (agree r t) (agrees_with r rules) e in
      ⊎_elim (λ k. rw k both.0) (λ k. of-agrees rules both.1 s k) (Memᴰ.cases_cons m)

  to-agrees : (rules : List Rule) → ((s : Rule) → s ∈ rules → agree r s ≡ true) → agrees_with r rules ≡ true
  unfolding agrees_with
  to-agrees [] h = refl
  to-agrees (t ∷ rules) h = ap₂ ◌&&◌ (h t (Memᴰ.head refl)) (to-agrees rules (λ s m. h s (Memᴰ.tail m)))

turned : {a b : Rule} → Meeting a b → Meeting b a
turned m = record { symbol = sym m.symbol; state = sym m.state; scope = sym m.scope }

-- of two rules that meet, the one that comes first agrees with the other
of-single : (rules : List Rule) → single rules ≡ true → (a b : Rule) → a ∈ rules → b ∈ rules → Meeting a b → a ≡ b
unfolding single
of-single [] e a b m k meeting = absurd (Memᴰ.not-nil m)
of-single (r ∷ rules) e a b m k meeting = by (of-single rules both.1 a b) (Memᴰ.cases_cons m) (Memᴰ.cases_cons k)
  where
    both : (agrees_with r rules ≡ true) × (single rules ≡ true)
    both = and-is-true (agrees_with r rules) (single rules) e

    first : (s : Rule) → s ∈ rules → Meeting r s → r ≡ s
    first s l = agree-one r s (of-agrees r rules both.0 s l)

    by : (a ∈ rules → b ∈ rules → Meeting a b → a ≡ b) → (a ≡ r) ⊎ (a ∈ rules) → (b ≡ r) ⊎ (b ∈ rules) → a ≡ b
    by later (inl x) (inl y) = x ∙ sym y
    by later (inl x) (inr y) = x ∙ first b y (subst (λ (s : Rule). Meeting s b) x meeting)
    by later (inr x) (inl y) = sym (first a x (subst (λ (s : Rule). Meeting s a) y (turned meeting))) ∙ sym y
    by later (inr x) (inr y) = later x y meeting

to-single : (rules : List Rule) → ((a b : Rule) → a ∈ rules → b ∈ rules → Meeting a b → a ≡ b) → single rules ≡ true
unfolding single
to-single [] h = refl
to-single (r ∷ rules) h =
    ap₂ ◌&&◌ (to-agrees r rules (λ s m. one-agrees r s (h r s (Memᴰ.head refl) (Memᴰ.tail m))))
    (to-single rules (λ a b m k. h a b (Memᴰ.tail m) (Memᴰ.tail k)))

-- what is computed of a list is said of its members: neither order nor repeats matter
pub single-has : (rules : List Rule) → (single rules ≡ true) ↔ Single (λ (r : Rule). r ∈ rules)
single-has rules = (
  λ e.
      record {
        one_rule = λ a b m k x y z.
            of-single rules e a b m k (record { symbol = ap (λ (s : Symbol). s.0) x; state = ap (λ (s : State). s.0) y; scope = z });
      },
  λ one.
      to-single rules
      (λ a b m k meeting. one.one_rule a b m k (λ i. record { 0 = meeting.symbol i }) (λ i. record { 0 = meeting.state i }) meeting.scope),
)

-- ---- the paper's Definition 19

pub single-deterministic : (h : Header) (content : List ℕ) → (single (spread_rules h content) ≡ true) ↔ Deterministic (Δ (automaton_of h content))
single-deterministic h content = (
  λ e.
      record {
        one_transition = λ {σ} {p} {τ} {μ} {μ'} {q} {q'} d d'.
            let same = of-single (spread_rules h content) e (rule σ p (Scope.Only τ) μ q) (rule σ p (Scope.Only τ) μ' q')
            ((spread-transition h content σ p τ μ q).1 d) ((spread-transition h content σ p τ μ' q').1 d') (record { symbol = refl; state = refl; scope = refl }) in
            (ap (λ (r : Rule). r.step) same, ap (λ (r : Rule). r.next.0) same);
      },
  λ one. to-single (spread_rules h content) (λ a b m k meeting. same one a b (spread-rule h content a m) (spread-rule h content b k) meeting),
)
  where
    same : Deterministic (Δ (automaton_of h content)) → (a b : Rule) → IsTransition h content a → IsTransition h content b → Meeting a b → a ≡ b
    same one a b x y meeting =
        let scopes : Scope.Only x.0 ≡ Scope.Only y.0 = sym x.1 ∙ meeting.scope ∙ y.1 in
        let place : y.0 ≡ x.0 = cc in
        let e = rw (place, ← meeting.symbol, ← meeting.state) at y.2 in
        let one-step = one.one_transition x.2 e in
        rule-same a b meeting.symbol meeting.state meeting.scope one-step.0 one-step.1

-- ---- the compiled transitions

-- the next states of the four moves, as the rows of a relation
abbrev rows_of : Next → (σ : ℕ) → Place → (p : ℕ) → List ℕ
rows_of next σ τ p = next σ τ Move.Stay p ∷ next σ τ Move.Up p ∷ next σ τ (Move.Down Side.Left) p ∷ next σ τ (Move.Down Side.Right) p ∷ []

-- transitions are of symbols and states that there are, into states below 32
abbrev Inside : Automaton → Type 0
Inside A = (σ p : ℕ) (τ : Place) (μ : Move) (q : ℕ) → Δ A σ p τ μ q → (σ < A.symbols) × (p < A.states) × (q < 32)

module _ (A : Automaton) (inside : Inside A) (σ : ℕ) (τ : Place) (p : ℕ) where
  abbrev rows : List ℕ
  rows = rows_of A.next σ τ p

  move_row : (μ : Move) (q : ℕ) → Δ A σ p τ μ q → has rows (move_byte μ) q
  move_row Move.Stay q d = d
  move_row Move.Up q d = d
  move_row (Move.Down Side.Left) q d = d
  move_row (Move.Down Side.Right) q d = d

  row_move : (i q : ℕ) → has rows i q → (μ : Move) × (move_byte μ ≡ i) × Δ A σ p τ μ q
  row_move zero q d = (Move.Stay, refl, d)
  row_move (suc zero) q d = (Move.Up, refl, d)
  row_move (suc (suc zero)) q d = (Move.Down Side.Left, refl, d)
  row_move (suc (suc (suc zero))) q d = (Move.Down Side.Right, refl, d)
  row_move (suc (suc (suc (suc i)))) q d = absurd (omega (arith, bit-zero q, d))

  words : Words rows
  words i q k = let m = row_move i q k in (inside σ p τ m.0 q m.2).2

  counted : (μ : Move) → ones (A.next σ τ μ p) ≡ bits_of 32 (A.next σ τ μ p)
  counted μ = ones-bits 32 (A.next σ τ μ p) (lt-of-bits (A.next σ τ μ p) 32 (λ q d. (inside σ p τ μ q d).2))

  -- the four counts together are those of the rows
  choices-count : choices A.next σ τ p ≡ count_of rows
  choices-count =
      ap₂ ◌+◌ (ap₂ ◌+◌ (ap₂ ◌+◌ (counted Move.Stay) (counted Move.Up)) (counted (Move.Down Side.Left))) (counted (Move.Down Side.Right))
      ∙ regroup _ _ _ _
    where
      regroup : (a b c d : ℕ) → a + b + c + d ≡ a + (b + (c + (d + 0)))
      regroup a b c d = omega arith

  -- at most one move and next state
  choice-has : (one_choice A.next σ τ p ≡ true) ↔ ((μ ν : Move) (q r : ℕ) → Δ A σ p τ μ q → Δ A σ p τ ν r → (μ ≡ ν) × (q ≡ r))
  unfolding one_choice
  choice-has = (
    λ e μ ν q r d d''.
        let few = subst (λ (n : ℕ). n ≤ 1) choices-count (leb-true _ 1 e) in
        let same = (count-one rows words).0 few (move_byte μ) q (move_byte ν) r (move_row μ q d) (move_row ν r d'') in
        (same_move μ ν same.0, same.1),
    λ one.
        le-leb _ 1
        (subst (λ (n : ℕ). n ≤ 1) (sym choices-count) ((count-one rows words).1 (λ i q j r d d''.
        let m = row_move i q d in
        let n = row_move j r d'' in
        let same = one m.0 n.0 q r m.2 n.2 in
        (sym m.1 ∙ ap move_byte same.0 ∙ n.1, same.1)))),
  )

places-has : (next : Next) (n σ : ℕ) → (one_places next n σ ≡ true) ↔ ((τ : Place) → one_each next σ τ n ≡ true)
unfolding one_places
places-has next n σ = (
  λ e.
      let x = and-is-true (one_each next σ Place.Root n && one_each next σ (Place.Child Side.Left) n) (one_each next σ (Place.Child Side.Right) n) e in
      let y = and-is-true (one_each next σ Place.Root n) (one_each next σ (Place.Child Side.Left) n) x.0 in
      at y.0 y.1 x.1,
  λ h. ap₂ ◌&&◌ (ap₂ ◌&&◌ (h Place.Root) (h (Place.Child Side.Left))) (h (Place.Child Side.Right)),
)
  where
    at : one_each next σ Place.Root n ≡ true → one_each next σ (Place.Child Side.Left) n ≡ true → one_each next σ (Place.Child Side.Right) n ≡ true
        → (τ : Place) → one_each next σ τ n ≡ true
    at a b c Place.Root = a
    at a b c (Place.Child Side.Left) = b
    at a b c (Place.Child Side.Right) = c

pub determined-has : (A : Automaton) → Inside A → (determined A ≡ true) ↔ Deterministic (Δ A)
determined-has A inside = (
  λ e.
      record {
        one_transition = λ {σ} {p} {τ} {μ} {μ'} {q} {q'} d d'.
            let in-range = inside σ p τ μ q d in
            let symbol = (each-has (one_places A.next A.states) A.symbols).0 e σ in-range.0 in
            let state = (each-has (one_choice A.next σ τ) A.states).0 ((places-has A.next A.states σ).0 symbol τ) p in-range.1 in
            (choice-has A inside σ τ p).0 state μ μ' q q' d d';
      },
  λ one.
      (each-has (one_places A.next A.states) A.symbols).1 (λ σ _.
      (places-has A.next A.states σ).1 (λ τ.
      (each-has (one_choice A.next σ τ) A.states).1 (λ p _.
      (choice-has A inside σ τ p).1 (λ μ ν q r d d'. one.one_transition d d')))),
)

-- two tests of one fact are equal
pub same_test : {P : Type 0} (a b : Bool) → (a ≡ true) ↔ P → (b ≡ true) ↔ P → a ≡ b
same_test true b h k = sym (k.1 (h.0 refl))
same_test false true h k = h.1 (k.0 refl)
same_test false false h k = refl

module _ (h : Header) (content : List ℕ) where
  file-inside : h.states ≤ 24 → Inside (automaton_of h content)
  file-inside few σ p τ μ q d =
      let a = (transition-has h content σ p τ μ q).0 d in
      let i = rule-in h content a.i a.rule a.known in (
        subst (λ (x : ℕ). x < h.symbols) a.applies.0 i.symbol,
        subst (λ (x : ℕ). x < h.states) a.applies.1 i.state,
        omega (arith, i.next, a.applies.4),
      )

  pub single-determined : h.states ≤ 24 → single (spread_rules h content) ≡ determined (automaton_of h content)
  single-determined few =
      same_test (single (spread_rules h content)) (determined (automaton_of h content)) (single-deterministic h content) (determined-has (automaton_of h content) (file-inside few))

-- what the cells of an automaton's table tell
pub table-determined : (A : Automaton) (t : List ℕ) → Compiled A t → A.symbols ≤ 32 → A.states ≤ 24 → one_symbols (next_in t) A.states A.symbols ≡ determined A
unfolding one_places one_choice
table-determined A t compiled few_symbols few-states =
    each_same (one_places (next_in t) A.states) (one_places A.next A.states) A.symbols (λ σ l.
    let at : (τ : Place) → one_each (next_in t) σ τ A.states ≡ one_each A.next σ τ A.states
    = λ τ. each_same (one_choice (next_in t) σ τ) (one_choice A.next σ τ) A.states (λ p k.
    let cell : (μ : Move) → ones (next_in t σ τ μ p) ≡ ones (A.next σ τ μ p) = λ μ. ap ones (compiled.cells σ τ μ p (omega arith) (omega arith)) in
    ap (λ (n : ℕ). leb n 1) (ap₂ ◌+◌ (ap₂ ◌+◌ (ap₂ ◌+◌ (cell Move.Stay) (cell Move.Up)) (cell (Move.Down Side.Left))) (cell (Move.Down Side.Right)))) in
    ap₂ ◌&&◌ (ap₂ ◌&&◌ (at Place.Root) (at (Place.Child Side.Left))) (at (Place.Child Side.Right)))
