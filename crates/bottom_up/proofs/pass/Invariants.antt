-- `bottom_up::pass` meets its contract. The invariant: the stack tells of the trees that the list writes from a node on, and the sum is small.
-- Assumes nothing.
use Prim.Native.Nat.{◌-◌, ◌*◌, ◌≤◌, ◌<◌}
use lib.ListN.{length, drop}
use Rattle.algorithms.specs.Automaton.{Automaton}
use Rattle.automaton.specs.File.{signature_in}
use Rattle.overloops.specs.Tables.{Tabled}
use Rattle.class_tables.specs.Cache.{Cached}
use Rattle.bottom_up.specs.Steps.{Loaded}
use Rattle.bottom_up.proofs.pass.Given as goal

abbrev pub invariant-loop-at : goal.invariant-loop-at
invariant-loop-at l = (0 < l.at) × (l.at ≤ length l.symbols) × (l.growth ≤ 2048 * (length l.symbols - l.at)) × ((A : Automaton) → Tabled A l.header.states l.table
    → Cached A l.initial.cache → Loaded A (signature_in l.header) l.cache l.leaves l.words (drop l.at l.symbols) l.stack l.growth)
