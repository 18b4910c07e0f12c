-- Answers as numbers, three for each tree, counted onto a tally.
-- Interface: `outcome_numbered`, `counted_all`.
use Rattle.std.specs.Prelude.{ℕ, zero, suc, List, [], ◌∷◌}
use Rattle.tally.specs.Tally.{counted_up}
use Rattle.tally.specs.declared.Outcome.{Outcome}
use Rattle.tally.specs.declared.Tally.{Tally}

-- what an answer's first number comes to: 0 accepted, 1 other, any other refused
abbrev pub outcome_numbered : ℕ → Outcome
outcome_numbered zero = Outcome.Accepted
outcome_numbered (suc zero) = Outcome.Other
outcome_numbered (suc (suc n)) = Outcome.Refused

-- the answers of a list, three numbers each, counted in turn onto a tally; what is left of fewer than three numbers is no answer
unfoldable pub counted_all : Tally → List ℕ → Tally
counted_all t [] = t
counted_all t (a ∷ []) = t
counted_all t (a ∷ number ∷ []) = t
counted_all t (a ∷ number ∷ place ∷ l) = counted_all (counted_up t (outcome_numbered a)).tally l
