-- `approximation::leaf_sets` meets its contract. The invariant: the leaves below the symbol are joined.
-- Assumes nothing.
use Prim.Native.Nat.{◌≤◌}
use mathlib.Core.Path.{◌≡◌}
use Rattle.algorithms.specs.Automaton.{Automaton, Proper, numbered}
use Rattle.algorithms.specs.Saturate.{algebra_of}
use Rattle.overloops.specs.Tables.{Leaves}
use Rattle.classes.specs.Classes.{parts_in}
use Rattle.approximation.proofs.Unions.{nothing, gathered}
use Rattle.approximation.proofs.leaf_sets.Given as goal

abbrev pub invariant-loop-symbol : goal.invariant-loop-symbol
invariant-loop-symbol l = (l.symbol ≤ l.header.symbols)
    × ((A : Automaton) → Proper A → Leaves A l.leaves → parts_in l.sets ≡ gathered nothing (algebra_of A).leaf_class (numbered 0 l.header.branches 0 l.symbol))
