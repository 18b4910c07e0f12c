-- Single automata (document 01, tally and report; as document 02, W2 has it): "Equal rules, after place 3 is spread over its places, count as the
-- same rule when we say whether a walker is single." Of the spread rules, equal ones taken once, no two have the same symbol, state and place.
-- Interface: `Single`, `meet`, `equal`, `single`, `single_if`, `single_of`.
use Rattle.std.specs.Prelude.{ℕ, ◌≡◌, Bool, true, false, not, ◌&&◌, ◌||◌, List, [], ◌∷◌, eqb, Result, Ok, Err}
use Rattle.automaton.specs.File.{read_automaton}
use Rattle.automaton.specs.Payload.{place_byte, move_byte}
use Rattle.automaton.specs.declared.Rule.{Rule}
use Rattle.transitions.specs.Spread.{spread_rules}
use Rattle.determinism.specs.declared.Singleness.{Singleness}
use Rattle.refusal.specs.declared.Refusal.{Refusal}

-- of a set of rules: two with the same symbol, state and place are one
pub record Single (rules : Rule → Type 0) : Type 0 where
  pub one_rule : (a b : Rule) → rules a → rules b → a.symbol ≡ b.symbol → a.state ≡ b.state → a.scope ≡ b.scope → a ≡ b

-- ---- the same, computed (`Determinism.single-has`)

-- two rules have the same symbol, state and place
abbrev pub meet : Rule → Rule → Bool
meet a b = eqb a.symbol.0 b.symbol.0 && eqb a.state.0 b.state.0 && eqb (place_byte a.scope) (place_byte b.scope)

-- all five bytes are equal
abbrev pub equal : Rule → Rule → Bool
equal a b = meet a b && eqb (move_byte a.step) (move_byte b.step) && eqb a.next.0 b.next.0

-- rules that meet are equal
abbrev pub agree : Rule → Rule → Bool
agree a b = not (meet a b) || equal a b

-- a rule agrees with each of these
unfoldable pub agrees_with : Rule → List Rule → Bool
agrees_with r [] = true
agrees_with r (s ∷ rules) = agree r s && agrees_with r rules

-- each rule agrees with all that follow it
unfoldable pub single : List Rule → Bool
single [] = true
single (r ∷ rules) = agrees_with r rules && single rules

-- ---- of a file

abbrev pub single_if : Bool → Singleness
single_if true = Singleness.Single
single_if false = Singleness.Multiple

-- whether its automaton is single, or its refusal
unfoldable pub single_of : List ℕ → Result Singleness Refusal
single_of s = read_automaton s Err (λ h contents. Ok (single_if (single (spread_rules h contents))))
