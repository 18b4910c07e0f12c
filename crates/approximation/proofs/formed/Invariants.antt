-- `approximation::formed` meets its contract. The invariant: what the branch symbols below the symbol form is joined to the sets.
-- Assumes nothing.
use Prim.Native.Nat.{◌≤◌}
use mathlib.Core.Path.{◌≡◌}
use Rattle.algorithms.specs.Automaton.{Automaton, numbered}
use Rattle.algorithms.specs.Saturate.{algebra_of}
use Rattle.overloops.specs.Tables.{Tabled}
use Rattle.classes.specs.Classes.{parts_in}
use Rattle.approximation.proofs.Unions.{gathered}
use Rattle.approximation.proofs.formed.Given as goal

abbrev pub invariant-loop-symbol : goal.invariant-loop-symbol
invariant-loop-symbol l = (l.symbol ≤ l.header.symbols)
    × ((A : Automaton) → Tabled A l.states l.table
    → parts_in l.more ≡ gathered (parts_in l.sets) (λ σ. (algebra_of A).node_class σ (parts_in l.sets) (parts_in l.sets)) (numbered 1 l.header.branches 0 l.symbol))
