-- `reporting::tally_pieces` meets its contract. The invariant: what was read comes to what the tally and the bytes that are held come to (`Reading`).
-- Assumes nothing.
-- what is common to all that follows the count of a buffer's answers
use Prim.Native.Nat.{◌-◌, ◌≤◌, ◌<◌}
use mathlib.Core.Path.{◌≡◌}
use lib.ListN.{length, take}
use Rattle.algorithms.specs.Automaton.{Automaton}
use Rattle.overloops.specs.Ready.{Headed}
use Rattle.class_tables.specs.Cache.{Cached}
use Rattle.tally.specs.Tally.{total}
use Rattle.reporting.proofs.Reading.{Reading}
use Rattle.reporting.proofs.tally_pieces.Given as goal

abbrev pub invariant-loop-header : goal.invariant-loop-header
invariant-loop-header l = (length l.buffer ≡ 65536) × (length l.answers ≡ 384) × (l.held ≤ 65536) × (total l.tally < 1000000)
    × ((A : Automaton) → Headed A l.header l.table → Cached A l.initial.cache → Cached A l.cache × Reading l.input A l.tally (take l.held l.buffer))

abbrev pub decreases-loop-header : goal.decreases-loop-header
decreases-loop-header l = 1000000 - total l.tally
