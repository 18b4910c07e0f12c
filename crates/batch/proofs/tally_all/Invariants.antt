-- `batch::tally_all` meets its contract. The invariant: the tally so far, and what is left, come to the whole.
-- Assumes nothing.
-- the place after a part is within the bytes
use Prim.Native.Nat.{◌-◌, ◌≤◌}
use mathlib.Core.Path.{◌≡◌}
use lib.ListN.{length, drop}
use Rattle.algorithms.specs.Automaton.{Automaton}
use Rattle.overloops.specs.Ready.{Headed}
use Rattle.class_tables.specs.Cache.{Cached}
use Rattle.batch.specs.Batch.{batch_of}
use Rattle.batch.proofs.tally_all.Given as goal

abbrev pub invariant-loop-header : goal.invariant-loop-header
invariant-loop-header l = (l.at ≤ length l.bytes) × (length l.answers ≡ 384)
    × ((A : Automaton) → Headed A l.header l.table → Cached A l.cache × (batch_of A l.initial.tally l.bytes ≡ batch_of A l.tally (drop l.at l.bytes)))

abbrev pub decreases-loop-header : goal.decreases-loop-header
decreases-loop-header l = length l.bytes - l.at
