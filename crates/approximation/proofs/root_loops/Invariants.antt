-- `approximation::root_loops` meets its contract. The invariant: the loops of the symbols below the symbol are joined.
-- Assumes nothing.
use Prim.Native.Nat.{◌≤◌}
use mathlib.Core.Path.{◌≡◌}
use Rattle.algorithms.specs.Automaton.{Automaton}
use Rattle.algorithms.specs.Saturate.{parts}
use Rattle.overloops.specs.Tables.{Tabled}
use Rattle.approximation.proofs.Unions.{at_root}
use Rattle.approximation.proofs.root_loops.Given as goal

abbrev pub invariant-loop-symbol : goal.invariant-loop-symbol
invariant-loop-symbol l = (l.symbol ≤ l.header.symbols)
    × ((A : Automaton) → Tabled A l.states l.table → l.loops.rows ≡ at_root A (parts l.left.rows l.right.rows) l.header.branches l.symbol)
