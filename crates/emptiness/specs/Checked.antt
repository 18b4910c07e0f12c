-- What the approximation of an automaton's file answers (document 01's quick check). Definitions only.
-- Interface: `checked_by`, `checked`.
use Rattle.std.specs.Prelude.{Bool, true, false, List, ℕ, Result, Ok, Err}
use Rattle.algorithms.specs.Automaton.{Automaton}
use Rattle.algorithms.specs.Approximate.{clear?}
use Rattle.transitions.specs.Transitions.{by_automaton}
use Rattle.emptiness.specs.declared.Quick.{Quick}
use Rattle.refusal.specs.declared.Refusal.{Refusal}

-- "Clear if .., else Unsure"
abbrev pub clear_or : Bool → Quick
clear_or true = Quick.Clear
clear_or false = Quick.Unsure

-- by an automaton
abbrev pub checked_by : Automaton → Quick
checked_by A = clear_or (clear? A)

-- of an automaton's file w
unfoldable pub checked : (w : List ℕ) → Result Quick Refusal
checked w = by_automaton w Err (λ A. Ok (checked_by A))
