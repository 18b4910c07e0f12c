-- The laws of document 02's W2. What is told of a file that reads is so of the set of its spread rules, and of its automaton (`single-right`);
-- neither order nor repeats of the records matter to it (`same-single`), nor to the automaton (`same-automaton`), its runs (`same_runs`) and
-- every answer by it (`same_answer`). Assumes nothing.
use Rattle.std.proofs.Common.{Result, Ok, Err}
use Prim.Native.Nat.{ℕ}
use mathlib.Core.Path.{◌≡◌, refl, sym, ap, subst}
use mathlib.Core.Logic.{◌↔◌}
use mathlib.Core.Bool.{Bool, true, false}
use mathlib.Core.List.{List}
use Rattle.relation.proofs.Pairs.{same_set}
use Rattle.model.specs.declared.Place.{Place}
use Rattle.model.specs.declared.Move.{Move}
use Rattle.model.specs.Lists.{◌∈◌}
use Rattle.model.specs.Trees.{Tree}
use Rattle.model.specs.Runs.{Config, Run}
use Rattle.algorithms.specs.Automaton.{Automaton, Δ, Accepted}
use Rattle.blocks.specs.Blocks.{content}
use Rattle.refusal.specs.declared.Refusal.{Refusal}
use Rattle.refusal.proofs.Passed.{clash}
use Rattle.automaton.specs.File.{parsed}
use Rattle.automaton.specs.Rules.{rule}
use Rattle.automaton.specs.declared.Header.{Header}
use Rattle.automaton.specs.declared.Rule.{Rule}
use Rattle.automaton.specs.declared.Scope.{Scope}
use Rattle.transitions.specs.Transitions.{automaton_of, by_automaton}
use Rattle.transitions.specs.Spread.{spread_rules, SameRules, SameCounts}
use Rattle.determinism.specs.Single.{Single, single, single_if, single_of}
use Rattle.determinism.specs.Singles.{SingleRight}
use Rattle.determinism.specs.declared.Singleness.{Singleness}
use Rattle.determinism.proofs.Determinism.{single-has, single-deterministic, same_test}
use Rattle.transitions.proofs.Spreading.{rule-same, spread-transition, spread-rule}

-- ---- "Equal rules, after place 3 is spread over its places, count as the same rule when we say whether a walker is single."

-- what is told of a file that reads
abbrev answered : Bool → Result Singleness Refusal
answered b = Ok (single_if b)

single-told : (b : Bool) → (answered b ≡ Ok Singleness.Single) ↔ (b ≡ true)
single-told true = (λ e. refl, λ e. refl)
single-told false = (λ e. clash (cc), λ e. clash (cc))

not-refused : (b : Bool) (x : Refusal) → ¬ (answered b ≡ Err x)
not-refused true x e = clash (cc)
not-refused false x e = clash (cc)

pub single-right : (s : List ℕ) → SingleRight s (single_of s)
unfolding single_of
single-right s h e =
    let rules = spread_rules h (content s) in
    let told = single-told (single rules) in
    rw e
    (record {
      rules = (λ f. (single-has rules).0 (told.0 f), λ one. told.1 ((single-has rules).1 one));
      deterministic = (λ f. (single-deterministic h (content s)).0 (told.0 f), λ one. told.1 ((single-deterministic h (content s)).1 one));
      no_refusal = not-refused (single rules);
    })

-- lists with the same members are single together
pub same-single : (xs ys : List Rule) → SameRules xs ys → single xs ≡ single ys
same-single xs ys same =
    same_test (single xs) (single ys) (single-has xs)
    (λ e. among (λ r. (same r).0) ((single-has ys).0 e), λ one. (single-has ys).1 (among (λ r. (same r).1) one))
  where
    among : {xs ys : List Rule} → ((r : Rule) → r ∈ xs → r ∈ ys) → Single (λ (r : Rule). r ∈ ys) → Single (λ (r : Rule). r ∈ xs)
    among f one = record { one_rule = λ a b m k. one.one_rule a b (f a m) (f b k) }

-- ---- "No run changes, since a rule met twice allows the same step."

module _ (h h' : Header) (p p' : List ℕ) where
  -- the same transitions
  same_next : SameRules (spread_rules h p) (spread_rules h' p') → (σ : ℕ) (τ : Place) (μ : Move) (s : ℕ)
      → (automaton_of h p).next σ τ μ s ≡ (automaton_of h' p').next σ τ μ s
  same_next same σ τ μ s =
      same_set ((automaton_of h p).next σ τ μ s) ((automaton_of h' p').next σ τ μ s) (λ q.
      let here = spread-transition h p σ s τ μ q in
      let there = spread-transition h' p' σ s τ μ q in
      let both = same (rule σ s (Scope.Only τ) μ q) in
      (λ d. there.0 (both.0 (here.1 d)), λ d. here.0 (both.1 (there.1 d))))

  one-automaton : SameCounts h h' → SameRules (spread_rules h p) (spread_rules h' p') → automaton_of h p ≡ automaton_of h' p'
  one-automaton counts same =
      λ i.
      record {
        states = counts.states i;
        symbols = counts.symbols i;
        initial = counts.initial i;
        accepting = counts.accepting i;
        branches = counts.branches i;
        next = λ σ τ μ s. same_next same σ τ μ s i;
      }

-- what is so of one of two equal automata is so of the other
over : {A B : Automaton} (P : Automaton → Type 0) → A ≡ B → P A ↔ P B
over P e = (subst P e, subst P (sym e))

-- a spread rule of one file is one of each file with the same automaton
moved : (h h' : Header) (p p' : List ℕ) → automaton_of h p ≡ automaton_of h' p' → (r : Rule) → r ∈ spread_rules h p → r ∈ spread_rules h' p'
moved h h' p p' e r m =
    let k = spread-rule h p r m in
    let d = subst (λ (A : Automaton). Δ A r.symbol.0 r.state.0 k.0 r.step r.next.0) e k.2 in
    let here = (spread-transition h' p' r.symbol.0 r.state.0 k.0 r.step r.next.0).1 d in
    subst (λ (s : Rule). s ∈ spread_rules h' p') (rule-same _ r refl refl (sym k.1) refl refl) here

module _ (h h' : Header) (p p' : List ℕ) where
  pub same-automaton : (SameCounts h h' × SameRules (spread_rules h p) (spread_rules h' p')) ↔ (automaton_of h p ≡ automaton_of h' p')
  same-automaton = (
    λ both. one-automaton h h' p p' both.0 both.1,
    λ e. (
      record {
        states = ap (λ (A : Automaton). A.states) e;
        symbols = ap (λ (A : Automaton). A.symbols) e;
        initial = ap (λ (A : Automaton). A.initial) e;
        accepting = ap (λ (A : Automaton). A.accepting) e;
        branches = ap (λ (A : Automaton). A.branches) e;
      },
      λ r. (moved h h' p p' e r, moved h' h p' p (sym e) r),
    ),
  )

  -- every run of the one is a run of the other; so they accept the same trees
  module _ (counts : SameCounts h h') (same : SameRules (spread_rules h p) (spread_rules h' p')) (t : Tree) where
    pub same_runs : (τ : Place) (c c' : Config) → Run (Δ (automaton_of h p)) τ t c c' ↔ Run (Δ (automaton_of h' p')) τ t c c'
    same_runs τ c c' = over (λ A. Run (Δ A) τ t c c') (one-automaton h h' p p' counts same)

    pub same-accepted : Accepted (automaton_of h p) t ↔ Accepted (automaton_of h' p') t
    same-accepted = over (λ A. Accepted A t) (one-automaton h h' p p' counts same)

-- judging, survey, quick check and tally answer the same
module _ {ℓ} {X : Type ℓ} where
  pub same_answer : (s s' : List ℕ) (h h' : Header) → parsed s ≡ Ok h → parsed s' ≡ Ok h' → SameCounts h h'
      → SameRules (spread_rules h (content s)) (spread_rules h' (content s')) → (refused : Refusal → X) (read : Automaton → X)
      → by_automaton s refused read ≡ by_automaton s' refused read
  same_answer s s' h h' e e' counts same refused read = rw (e, e') (ap read (one-automaton h h' (content s) (content s') counts same))
