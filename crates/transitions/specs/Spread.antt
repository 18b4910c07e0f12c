-- The rules of an automaton's file with place 3 spread over its places (document 02, W2). They are a set: who cites them asks only for `◌∈◌`.
-- Interface: `places_of`, `at_place`, `spread`, `spread_first`, `spread_rules`, `SameRules`, `SameCounts`.
use Rattle.std.specs.Prelude.{ℕ, zero, suc, ◌≡◌, ◌↔◌, List, [], ◌∷◌, ◌++◌, map, Option, Some, None}
use Rattle.model.specs.declared.Side.{Side}
use Rattle.model.specs.declared.Place.{Place}
use Rattle.model.specs.Lists.{◌∈◌}
use Rattle.automaton.specs.Rules.{rule, rule_at}
use Rattle.automaton.specs.declared.Header.{Header}
use Rattle.automaton.specs.declared.Rule.{Rule}
use Rattle.automaton.specs.declared.Scope.{Scope}

-- "3 all three" (document 01, the walker file)
abbrev pub places_of : Scope → List Place
places_of (Scope.Only τ) = τ ∷ []
places_of Scope.Every = Place.Root ∷ Place.Child Side.Left ∷ Place.Child Side.Right ∷ []

-- a rule, at one place alone
abbrev pub at_place : Rule → Place → Rule
at_place r τ = rule r.symbol.0 r.state.0 (Scope.Only τ) r.step r.next.0

-- "after place 3 is spread over its places"
abbrev pub spread : Option Rule → List Rule
spread None = []
spread (Some r) = map (at_place r) (places_of r.scope)

-- the spread rules of the first n records
unfoldable pub spread_first : Header → List ℕ → (n : ℕ) → List Rule
spread_first h content zero = []
spread_first h content (suc n) = spread_first h content n ++ spread (rule_at h content n)

-- those of a header and the joined contents
abbrev pub spread_rules : Header → List ℕ → List Rule
spread_rules h content = spread_first h content h.rules

-- ---- two files

-- the same set of rules
abbrev pub SameRules : List Rule → List Rule → Type 0
SameRules xs ys = (r : Rule) → (r ∈ xs) ↔ (r ∈ ys)

-- the same counts of states and symbols, and the same three sets; the number of records may differ
pub record SameCounts (h h' : Header) : Type 0 where
  pub states : h.states ≡ h'.states
  pub symbols : h.symbols ≡ h'.symbols
  pub initial : h.initial ≡ h'.initial
  pub accepting : h.accepting ≡ h'.accepting
  pub branches : h.branches ≡ h'.branches
