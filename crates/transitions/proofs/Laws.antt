-- Laws of the table: a store to one cell, a rule's places, the rules one by one.
-- Assumes nothing.
use Rattle.std.proofs.Common.{Some, None, Result, Ok}
use Prim.Native.Nat.{ℕ, ◌+◌, ◌*◌, ◌^◌, ◌<◌}
use mathlib.Core.Path.{◌≡◌, refl, sym, ap, ◌∙◌}
use mathlib.Core.Bool.{Bool, true, false, ◌&&◌}
use mathlib.Core.List.{List}
use native.Mathlib.Numerals.{add-one}
use native.Mathlib.Omega.{arith}
use borrow.Author.Tests.{eqb-true, eq-eqb}
use lib.ListN.{length, get_or, set, replicate, length-set, length-replicate, get_or-replicate}
use lib.Seq.{get_or-set_same, get_or-set_other}
use lib.Dec.{eqb, lit<}
use lib.Bits.{bit_or}
use Rattle.model.specs.declared.Side.{Side}
use Rattle.model.specs.declared.Place.{Place}
use Rattle.model.specs.declared.Move.{Move}
use Rattle.blocks.specs.Blocks.{content}
use Rattle.refusal.proofs.Passed.{and-is-true}
use Rattle.automaton.specs.Payload.{move_byte}
use Rattle.automaton.specs.Rules.{rule_at}
use Rattle.automaton.specs.declared.Header.{Header}
use Rattle.automaton.specs.declared.Rule.{Rule}
use Rattle.automaton.specs.declared.Scope.{Scope}
use Rattle.transitions.specs.Transitions.{place_number, fits, with_if, added_by, next_states, automaton_of}
use Rattle.transitions.specs.Compiled.{cell_of, RuleFits, Stepped, Added, Tabulates, Compiled, Loaded}
use Rattle.refusal.specs.declared.Refusal.{Refusal}

pub place-small : (τ : Place) → place_number τ < 3
place-small Place.Root = lit< tt
place-small (Place.Child Side.Left) = lit< tt
place-small (Place.Child Side.Right) = lit< tt

pub move-small : (μ : Move) → move_byte μ < 4
move-small Move.Stay = lit< tt
move-small Move.Up = lit< tt
move-small (Move.Down Side.Left) = lit< tt
move-small (Move.Down Side.Right) = lit< tt

-- ---- cells

record SameCell (a b c d a' b' c' d'' : ℕ) : Type 0 where
  symbol : a ≡ a'
  place : b ≡ b'
  step : c ≡ c'
  state : d ≡ d''

-- two cells with one index have the same numbers
same-cell : (a b c d a' b' c' d'' : ℕ) → b < 3 → c < 4 → d < 24 → b' < 3 → c' < 4 → d'' < 24
    → ((a * 3 + b) * 4 + c) * 24 + d ≡ ((a' * 3 + b') * 4 + c') * 24 + d'' → SameCell a b c d a' b' c' d''
same-cell a b c d a' b' c' d'' hb hc hd hb' hc' hd' e =
    let ea : a ≡ a' = omega arith in
    let eb : b ≡ b' = omega arith in
    let ec : c ≡ c' = omega arith in
    record { symbol = ea; place = eb; step = ec; state = omega arith }

-- the test of a rule at a cell
four-true : (a b c d a' b' c' d'' : ℕ) → (eqb b b' && eqb a a' && eqb c c' && eqb d d'') ≡ true → SameCell a b c d a' b' c' d''
four-true a b c d a' b' c' d'' e =
    let x = and-is-true (eqb b b' && eqb a a' && eqb c c') (eqb d d'') e in
    let y = and-is-true (eqb b b' && eqb a a') (eqb c c') x.0 in
    let z = and-is-true (eqb b b') (eqb a a') y.0 in
    record { symbol = eqb-true a a' z.1; place = eqb-true b b' z.0; step = eqb-true c c' y.1; state = eqb-true d d'' x.1 }

four-false : (a b c d a' b' c' d'' : ℕ) → (eqb b b' && eqb a a' && eqb c c' && eqb d d'') ≡ false → SameCell a b c d a' b' c' d'' → ⊥
four-false a b c d a' b' c' d'' e s =
    let all : (eqb b b' && eqb a a' && eqb c c' && eqb d d'') ≡ true
    = simp (eq-eqb b b' s.place, eq-eqb a a' s.symbol, eq-eqb c c' s.step, eq-eqb d d'' s.state) in
    let z : ◌≡◌ {A = ℕ} 0 1 = cc in
    omega arith

-- ---- a store to one cell

module _ (t : List ℕ) (r : Rule) (π : Place) (long : length t ≡ 9216) (within : RuleFits r) where
  abbrev i : ℕ
  i = cell_of r.symbol.0 π r.step r.state.0

  abbrev v : ℕ
  v = bit_or (get_or t i 0) (2 ^ r.next.0)

  pub stepped : Stepped r π t (set t i v)
  stepped = record { size = length-set t i v; cells = λ σ τ μ p hσ hp. go σ τ μ p hp (fits r (eqb (place_number π) (place_number τ)) σ μ p) refl }
    where
      go : (σ : ℕ) (τ : Place) (μ : Move) (p : ℕ) → p < 24 → (x : Bool) → fits r (eqb (place_number π) (place_number τ)) σ μ p ≡ x
          → get_or (set t i v) (cell_of σ τ μ p) 0 ≡ with_if x r.next.0 (get_or t (cell_of σ τ μ p) 0)
      go σ τ μ p hp true e =
          let s = four-true r.symbol.0 (place_number π) (move_byte r.step) r.state.0 σ (place_number τ) (move_byte μ) p e in
          let k : cell_of σ τ μ p ≡ i = simp (s.symbol, s.place, s.step, s.state) in
          rw k (get_or-set_same t i v 0 (omega (arith, within.symbol, within.state, place-small π, move-small r.step)))
      go σ τ μ p hp false e =
          get_or-set_other t i (cell_of σ τ μ p) v 0
          (λ q. four-false r.symbol.0 (place_number π) (move_byte r.step) r.state.0 σ (place_number τ) (move_byte μ) p e
          (same-cell r.symbol.0 (place_number π) (move_byte r.step) r.state.0 σ (place_number τ) (move_byte μ) p
          (place-small π) (move-small r.step) within.state (place-small τ) (move-small μ) hp (sym q)))

-- ---- a rule's places

pub at_one : (r : Rule) {t t₁ : List ℕ} {π : Place} → r.scope ≡ Scope.Only π → Stepped r π t t₁ → Added (Some r) t t₁
at_one r e s = record { size = s.size; cells = λ σ τ μ p hσ hp. rw e (s.cells σ τ μ p hσ hp) }

module _ (r : Rule) {t t₁ t₂ t₃ : List ℕ} where
  pub at_every : r.scope ≡ Scope.Every → Stepped r Place.Root t t₁ → Stepped r (Place.Child Side.Left) t₁ t₂
      → Stepped r (Place.Child Side.Right) t₂ t₃ → Added (Some r) t t₃
  at_every e s₀ s₁ s₂ = record { size = s₂.size ∙ s₁.size ∙ s₀.size; cells = λ σ τ μ p hσ hp. rw e (go σ τ μ p hσ hp) }
    where
      go : (σ : ℕ) (τ : Place) (μ : Move) (p : ℕ) → σ < 32 → p < 24
          → get_or t₃ (cell_of σ τ μ p) 0 ≡ with_if (fits r true σ μ p) r.next.0 (get_or t (cell_of σ τ μ p) 0)
      go σ Place.Root μ p hσ hp = s₂.cells σ Place.Root μ p hσ hp ∙ s₁.cells σ Place.Root μ p hσ hp ∙ s₀.cells σ Place.Root μ p hσ hp
      go σ (Place.Child Side.Left) μ p hσ hp =
          let τ = Place.Child Side.Left in
          s₂.cells σ τ μ p hσ hp ∙ s₁.cells σ τ μ p hσ hp ∙ ap (with_if (fits r true σ μ p) r.next.0) (s₀.cells σ τ μ p hσ hp)
      go σ (Place.Child Side.Right) μ p hσ hp =
          let τ = Place.Child Side.Right in
          s₂.cells σ τ μ p hσ hp ∙ ap (with_if (fits r true σ μ p) r.next.0) (s₁.cells σ τ μ p hσ hp ∙ s₀.cells σ τ μ p hσ hp)

pub unknown-adds : (t : List ℕ) → Added None t t
unknown-adds t = record { size = refl; cells = λ σ τ μ p hσ hp. refl }

-- ---- the rules one by one

pub none-held : (h : Header) (content : List ℕ) (n : ℕ) → n ≡ 9216 → Tabulates (next_states h content 0) (replicate n 0)
unfolding next_states
none-held h content n e =
    record {
      size = length-replicate n 0 ∙ e;
      cells = λ σ τ μ p hσ hp. get_or-replicate n (cell_of σ τ μ p) 0 0 (omega (arith, place-small τ, move-small μ));
    }

pub one-held : (h : Header) (content : List ℕ) (n : ℕ) (t t' : List ℕ)
    → Tabulates (next_states h content n) t → Added (rule_at h content n) t t' → Tabulates (next_states h content (n + 1)) t'
unfolding next_states
one-held h content n t t' old new =
    record {
      size = new.size ∙ old.size;
      cells = λ σ τ μ p hσ hp. rw add-one (new.cells σ τ μ p hσ hp ∙ ap (added_by (rule_at h content n) σ τ μ p) (old.cells σ τ μ p hσ hp));
    }

-- ---- what loading leaves, of a file that reads

pub loaded-read : (r : Result Header Refusal) (h : Header) (s before after : List ℕ) → r ≡ Ok h → Loaded r s before after → Compiled (automaton_of h (content s)) after
loaded-read r h s before after e l = rw e at l
