-- `overloops::fill_leaves` meets its contract. The invariant: the leaves below the symbol are filled.
-- Assumes nothing.
use Prim.Native.Nat.{◌≤◌}
use mathlib.Core.Path.{◌≡◌}
use lib.ListN.{length}
use Rattle.algorithms.specs.Automaton.{Automaton}
use Rattle.overloops.specs.Tables.{Tabled, LeavesBelow}
use Rattle.overloops.proofs.fill_leaves.Given as goal

abbrev pub invariant-loop-symbol : goal.invariant-loop-symbol
invariant-loop-symbol l = (l.symbol ≤ 32) × (length l.leaves ≡ 1536) × ((A : Automaton) → Tabled A l.states l.table → LeavesBelow l.symbol A l.leaves)
