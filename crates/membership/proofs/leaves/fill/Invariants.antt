-- `membership::leaves::fill` meets its contract. The invariant: the leaf symbols below the symbol are filled in.
-- Assumes nothing.
use Prim.Native.Nat.{◌≤◌}
use mathlib.Core.Path.{◌≡◌}
use lib.ListN.{length}
use Rattle.algorithms.specs.Automaton.{Automaton}
use Rattle.overloops.specs.Tables.{Tabled}
use Rattle.membership.specs.LeafTables.{LeafParts}
use Rattle.membership.proofs.leaves.fill.Given as goal

abbrev pub invariant-loop-symbol : goal.invariant-loop-symbol
invariant-loop-symbol l = (l.symbol ≤ l.symbols) × (length l.leaves ≡ 1536) × (length l.growths ≡ 64) × ((A : Automaton) → Tabled A l.states l.table → LeafParts l.symbol l.branches A l.leaves l.growths)
