-- The automaton of a file: its counts and sets, and the transitions that its rules allow (document 01, the walker file; steps, runs, crossings:
-- "A rule applies at a node of its symbol, in its state, at its place").
-- Interface: `place_number`, `automaton_of`, `by_automaton`.
use Rattle.std.specs.Prelude.{ℕ, zero, suc, ◌^◌, ◌<◌, ◌≡◌, Bool, true, false, ◌&&◌, List, eqb, Option, Some, None}
use Rattle.std.specs.Int.Bits.{bit_or}
use Rattle.model.specs.declared.Place.{Place}
use Rattle.model.specs.declared.Move.{Move}
use Rattle.algorithms.specs.Automaton.{Automaton}
use Rattle.refusal.specs.declared.Refusal.{Refusal}
use Rattle.automaton.specs.Rules.{rule_at}
use Rattle.automaton.specs.File.{read_automaton}
use Rattle.automaton.specs.Payload.{place_byte, move_byte}
use Rattle.automaton.specs.declared.Header.{Header}
use Rattle.automaton.specs.declared.Rule.{Rule}
use Rattle.automaton.specs.declared.Scope.{Scope}

-- ---- when a rule is a transition

-- the scope has the place: place 3 has all three
abbrev pub Covers : Scope → Place → Type 0
Covers (Scope.Only π) τ = π ≡ τ
Covers Scope.Every τ = Unit {0}

-- the rule allows, at a node with symbol σ at the place τ, in state p, the move μ into state q
abbrev pub Applies : Rule → (σ p : ℕ) → Place → Move → (q : ℕ) → Type 0
Applies r σ p τ μ q = (r.symbol.0 ≡ σ) × (r.state.0 ≡ p) × Covers r.scope τ × (r.step ≡ μ) × (r.next.0 ≡ q)

-- one of the first n rules does
pub record Allowed (h : Header) (content : List ℕ) (n : ℕ) (σ p : ℕ) (τ : Place) (μ : Move) (q : ℕ) : Type 0 where
  pub i : ℕ
  pub below : i < n
  pub rule : Rule
  pub known : rule_at h content i ≡ Some rule
  pub applies : Applies rule σ p τ μ q

-- ---- the same, computed

abbrev pub place_number : Place → ℕ
place_number τ = place_byte (Scope.Only τ)

abbrev pub covers : Scope → Place → Bool
covers (Scope.Only π) τ = eqb (place_number π) (place_number τ)
covers Scope.Every τ = true

-- a rule that covers the place has this symbol, move and state
abbrev pub fits : Rule → (covered : Bool) → (σ : ℕ) → Move → (p : ℕ) → Bool
fits r covered σ μ p = covered && eqb r.symbol.0 σ && eqb (move_byte r.step) (move_byte μ) && eqb r.state.0 p

abbrev pub with_if : Bool → (q set : ℕ) → ℕ
with_if true q set = bit_or set (2 ^ q)
with_if false q set = set

-- a set of next states, with the one that a rule adds
abbrev pub added_by : Option Rule → (σ : ℕ) → Place → Move → (p set : ℕ) → ℕ
added_by None σ τ μ p set = set
added_by (Some r) σ τ μ p set = with_if (fits r (covers r.scope τ) σ μ p) r.next.0 set

-- the next states that the first n rules allow
unfoldable pub next_states : Header → List ℕ → (n σ : ℕ) → Place → Move → (p : ℕ) → ℕ
next_states h content zero σ τ μ p = 0
next_states h content (suc n) σ τ μ p = added_by (rule_at h content n) σ τ μ p (next_states h content n σ τ μ p)

-- the automaton of a header and the joined contents
abbrev pub automaton_of : Header → List ℕ → Automaton
automaton_of h content =
    record {
      states = h.states;
      symbols = h.symbols;
      initial = h.initial;
      accepting = h.accepting;
      branches = h.branches;
      next = next_states h content h.rules;
    }

-- what is answered by the automaton of a file, or to its refusal: judging, survey, quick check and tally
module _ {ℓ} {X : Type ℓ} where
  abbrev pub by_automaton : (file : List ℕ) → (refused : Refusal → X) → (read : Automaton → X) → X
  by_automaton file refused read = read_automaton file refused (λ h contents. read (automaton_of h contents))
