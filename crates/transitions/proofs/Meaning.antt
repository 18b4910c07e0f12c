-- The automaton of a file: its transitions are those that some rule allows (`transition-has`), and of a file that reads without refusal it is
-- proper (`file-proper`), never goes up from the root and goes down at branch symbols only (`no-exit`, `no_descent`).
-- Assumes nothing.
use Rattle.std.proofs.Common.{Option, Some, None, Ok}
use Prim.Native.Nat.{ℕ, zero, suc, ◌/◌, ◌^◌, ◌<◌}
use mathlib.Core.Path.{◌≡◌, refl, ap, subst}
use mathlib.Core.Logic.{◌⊎◌, inl, inr, ⊎_elim, ◌↔◌}
use mathlib.Core.Bool.{Bool, true, false, not, ◌&&◌}
use mathlib.Core.List.{List}
use native.Mathlib.Nat.{one-mul, div-lt_iff_lt-mul}
use native.Mathlib.Decide.{dec_lt}
use native.Mathlib.Omega.{arith}
use borrow.Author.Tests.{eqb-true, eq-eqb, not-false}
use lib.Dec.{eqb}
use lib.Pow.{pow_pos}
use Rattle.relation.proofs.BitLaws.{bit-zero, bit-pow, bit-pow-eq, bit_below, or-has}
use Rattle.relation.specs.Sets.{member, member_has}
use Rattle.model.specs.declared.Side.{Side}
use Rattle.model.specs.declared.Place.{Place}
use Rattle.model.specs.declared.Move.{Move}
use Rattle.algorithms.specs.Automaton.{In, Δ, Proper}
use Rattle.blocks.specs.Blocks.{content}
use Rattle.refusal.specs.Checks.{refuse_if, ◌and_then◌}
use Rattle.refusal.specs.declared.Fault.{Fault}
use Rattle.refusal.proofs.Passed.{count-passed, clash, and-is-true, both-passed, if-passed}
use Rattle.automaton.specs.Payload.{move_byte}
use Rattle.automaton.specs.Rules.{rule_at, may_be_root, misplaced_move, misplaced}
use Rattle.automaton.specs.File.{format, beyond, sets_check, parsed}
use Rattle.automaton.specs.declared.Header.{Header}
use Rattle.automaton.specs.declared.Rule.{Rule}
use Rattle.automaton.specs.declared.Scope.{Scope}
use Rattle.automaton.proofs.Bytes.{same-scope, same_move}
use Rattle.automaton.proofs.Passed.{counts-passed, rule-in, file-read}
use Rattle.transitions.specs.Transitions.{Covers, Applies, Allowed, place_number, covers, fits, with_if, added_by, next_states, automaton_of}

pub same_place : {π τ : Place} → place_number π ≡ place_number τ → π ≡ τ
same_place {π} {τ} e = let same : Scope.Only π ≡ Scope.Only τ = same-scope (Scope.Only π) (Scope.Only τ) e in cc

-- ---- a transition is what some rule allows

covers-has : (s : Scope) (τ : Place) → (covers s τ ≡ true) ↔ Covers s τ
covers-has (Scope.Only π) τ = (
  λ h. same_place (eqb-true (place_number π) (place_number τ) h),
  λ e. eq-eqb (place_number π) (place_number τ) (ap place_number e),
)
covers-has Scope.Every τ = (λ h. tt, λ h. refl)

fits-has : (r : Rule) (σ : ℕ) (τ : Place) (μ : Move) (p : ℕ)
    → (fits r (covers r.scope τ) σ μ p ≡ true) ↔ ((r.symbol.0 ≡ σ) × (r.state.0 ≡ p) × Covers r.scope τ × (r.step ≡ μ))
fits-has r σ τ μ p = (
  λ h.
      let x = and-is-true (covers r.scope τ && eqb r.symbol.0 σ && eqb (move_byte r.step) (move_byte μ)) (eqb r.state.0 p) h in
      let y = and-is-true (covers r.scope τ && eqb r.symbol.0 σ) (eqb (move_byte r.step) (move_byte μ)) x.0 in
      let z = and-is-true (covers r.scope τ) (eqb r.symbol.0 σ) y.0 in (
        eqb-true r.symbol.0 σ z.1,
        eqb-true r.state.0 p x.1,
        (covers-has r.scope τ).0 z.0,
        same_move r.step μ (eqb-true (move_byte r.step) (move_byte μ) y.1),
      ),
  λ (a, b, c, d).
      simp (
        (covers-has r.scope τ).1 c,
        eq-eqb r.symbol.0 σ a,
        eq-eqb (move_byte r.step) (move_byte μ) (ap move_byte d),
        eq-eqb r.state.0 p b,
      ),
)

in-with_if : (b : Bool) (q set i : ℕ) → In (with_if b q set) i ↔ (((b ≡ true) × (q ≡ i)) ⊎ In set i)
in-with_if true q set i = (
  λ h. ⊎_elim inr (λ e. inl (refl, bit-pow-eq q i e)) ((or-has set (2 ^ q) i).0 h),
  λ h. (or-has set (2 ^ q) i).1 (⊎_elim (λ e. inr (rw e.1 (bit-pow i))) inl h),
)
in-with_if false q set i = (inr, ⊎_elim (λ e. clash (cc e.0)) (λ h. h))

-- what one record adds
in-added : (bytes : Option Rule) (σ : ℕ) (τ : Place) (μ : Move) (p set q : ℕ)
    → In (added_by bytes σ τ μ p set) q ↔ (((r : Rule) × (bytes ≡ Some r) × Applies r σ p τ μ q) ⊎ In set q)
in-added None σ τ μ p set q = (inr, ⊎_elim (λ e. clash (cc e.1)) (λ h. h))
in-added (Some r) σ τ μ p set q =
    let e = in-with_if (fits r (covers r.scope τ) σ μ p) r.next.0 set q in (
      λ h. ⊎_elim (λ x. let f = (fits-has r σ τ μ p).0 x.0 in inl (r, refl, (f.0, f.1, f.2, f.3, x.1))) inr (e.0 h),
      λ h. e.1 (⊎_elim first inr h),
    )
  where
    first : (s : Rule) × (Some r ≡ Some s) × Applies s σ p τ μ q
        → ((fits r (covers r.scope τ) σ μ p ≡ true) × (r.next.0 ≡ q)) ⊎ In set q
    first (s, known, (a, b, c, d, f)) =
        let same : s ≡ r = cc in
        inl ((fits-has r σ τ μ p).1 (rw same at a, rw same at b, rw same at c, rw same at d), rw same at f)

next-has : (h : Header) (s : List ℕ) (n σ : ℕ) (τ : Place) (μ : Move) (p q : ℕ) → In (next_states h s n σ τ μ p) q ↔ Allowed h s n σ p τ μ q
unfolding next_states
next-has h s zero σ τ μ p q = (λ k. absurd (omega (arith, bit-zero q, k)), λ a. absurd (omega (arith, a.below)))
next-has h s (suc n) σ τ μ p q =
    let e = in-added (rule_at h s n) σ τ μ p (next_states h s n σ τ μ p) q in
    let ih = next-has h s n σ τ μ p q in
    (λ k. ⊎_elim here (λ x. earlier (ih.0 x)) (e.0 k), λ a. e.1 (back ih.1 a (dec_lt a.i n)))
  where
    here : (r : Rule) × (rule_at h s n ≡ Some r) × Applies r σ p τ μ q → Allowed h s (suc n) σ p τ μ q
    here (r, known, applies) = record { i = n; below = omega arith; rule = r; known = known; applies = applies }

    earlier : Allowed h s n σ p τ μ q → Allowed h s (suc n) σ p τ μ q
    earlier a = record { i = a.i; below = omega (arith, a.below); rule = a.rule; known = a.known; applies = a.applies }

    back : (Allowed h s n σ p τ μ q → In (next_states h s n σ τ μ p) q) → (a : Allowed h s (suc n) σ p τ μ q) → Dec (a.i < n)
        → ((r : Rule) × (rule_at h s n ≡ Some r) × Applies r σ p τ μ q) ⊎ In (next_states h s n σ τ μ p) q
    back later a (yes l) = inr (later (record { i = a.i; below = l; rule = a.rule; known = a.known; applies = a.applies }))
    back later a (no l) =
        let last : a.i ≡ n = omega (arith, a.below) in
        inl (a.rule, subst (λ (k : ℕ). rule_at h s k ≡ Some a.rule) last a.known, a.applies)

-- Δ of a file's automaton: some rule record matches
pub transition-has : (h : Header) (s : List ℕ) (σ p : ℕ) (τ : Place) (μ : Move) (q : ℕ)
    → Δ (automaton_of h s) σ p τ μ q ↔ Allowed h s h.rules σ p τ μ q
transition-has h s σ p τ μ q = next-has h s h.rules σ τ μ p q

-- ---- a file that reads without refusal

below-of-div : (x n : ℕ) → x / 2 ^ n ≡ 0 → x < 2 ^ n
below-of-div x n e = subst (λ (y : ℕ). x < y) (one-mul (2 ^ n)) ((div-lt_iff_lt-mul (pow_pos n)).0 (omega arith))

not_beyond : (count set q : ℕ) → beyond count set ≡ false → In set q → q < count
not_beyond count set q e k = bit_below set count q (below-of-div set count (eqb-true _ _ (not-false _ e))) k

record SetsFit (h : Header) : Type 0 where
  initial : beyond h.states h.initial ≡ false
  accepting : beyond h.states h.accepting ≡ false
  branches : beyond h.symbols h.branches ≡ false

sets-fit : (h : Header) → sets_check h ≡ Ok tt → SetsFit h
unfolding sets_check
sets-fit h e =
    let a = refuse_if (beyond h.states h.initial) Fault.Set 0 8 in
    let b = refuse_if (beyond h.states h.accepting) Fault.Set 0 12 in
    let c = refuse_if (beyond h.symbols h.branches) Fault.Set 0 16 in
    let x = both-passed a (b and_then c) e in
    let y = both-passed b c x.1 in
    record { initial = if-passed _ Fault.Set 0 8 x.0; accepting = if-passed _ Fault.Set 0 12 y.0; branches = if-passed _ Fault.Set 0 16 y.1 }

module _ (s : List ℕ) (h : Header) (e : parsed s ≡ Ok h) where
  pub file-proper : Proper (automaton_of h (content s))
  file-proper =
      let read = file-read s h e in
      let sets = sets-fit h read.sets in
      record {
        few = read.laid_out.states;
        transitions = λ σ τ μ p q k.
            let a = (transition-has h (content s) σ p τ μ q).0 k in
            let i = rule-in h (content s) a.i a.rule a.known in
            (subst (λ (x : ℕ). x < h.states) a.applies.1 i.state, subst (λ (x : ℕ). x < h.states) a.applies.4 i.next);
        initials = λ q k. not_beyond h.states h.initial q sets.initial k;
        finals = λ q k. not_beyond h.states h.accepting q sets.accepting k;
      }

  -- its symbols are some, and its branch symbols are among them
  pub file-symbols : (0 < h.symbols) × ((σ : ℕ) → member h.branches σ ≡ true → σ < h.symbols)
  file-symbols =
      let read = file-read s h e in
      let some = (count-passed format h.symbols 1 32 2 (counts-passed h read.counts).symbols).0 in
      (some, λ σ k. not_beyond h.symbols h.branches σ (sets-fit h read.sets).branches ((member_has h.branches σ).0 k))

  -- the rule behind a transition is well placed
  placed : {σ p : ℕ} {τ : Place} {μ : Move} {q : ℕ} (a : Allowed h (content s) h.rules σ p τ μ q) → misplaced h.branches a.rule ≡ false
  placed a =
      let known = (file-read s h e).rules a.i a.below in
      let same : a.rule ≡ known.rule = cc (a.known, known.known) in
      rw same known.placed

  root-covered : (t : Scope) → Covers t Place.Root → may_be_root t ≡ true
  root-covered (Scope.Only π) c = rw c
  root-covered Scope.Every c = refl

  -- line 9: no transition goes up from the root
  pub no-exit : (σ p q : ℕ) → Δ (automaton_of h (content s)) σ p Place.Root Move.Up q → ⊥
  unfolding misplaced
  no-exit σ p q k =
      let a = (transition-has h (content s) σ p Place.Root Move.Up q).0 k in
      let f : misplaced_move (member h.branches a.rule.symbol.0) a.rule.scope a.rule.step ≡ false = placed a in
      let g : may_be_root a.rule.scope ≡ false = rw a.applies.3 at f in
      clash (cc (root-covered a.rule.scope a.applies.2, g))

  -- line 9: a transition goes down at a branch symbol only
  pub no_descent : (σ p : ℕ) (τ : Place) (d : Side) (q : ℕ) → Δ (automaton_of h (content s)) σ p τ (Move.Down d) q → In h.branches σ
  unfolding misplaced
  no_descent σ p τ d q k =
      let a = (transition-has h (content s) σ p τ (Move.Down d) q).0 k in
      let f : misplaced_move (member h.branches a.rule.symbol.0) a.rule.scope a.rule.step ≡ false = placed a in
      let g : not (member h.branches a.rule.symbol.0) ≡ false = rw a.applies.3 at f in
      subst (In h.branches) a.applies.0 ((member_has h.branches a.rule.symbol.0).0 (not-false _ g))
