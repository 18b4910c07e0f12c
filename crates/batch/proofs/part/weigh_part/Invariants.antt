-- `batch::part::weigh_part` meets its contract. The invariant: the files so far are judged, and their answers written.
-- Assumes nothing.
-- a part from a place on
use Prim.Native.Nat.{◌-◌, ◌*◌, ◌≤◌}
use mathlib.Core.Path.{◌≡◌}
use lib.ListN.{length, drop}
use Rattle.algorithms.specs.Automaton.{Automaton}
use Rattle.overloops.specs.Ready.{Headed}
use Rattle.class_tables.specs.Cache.{Cached}
use Rattle.batch.specs.Answers.{after_files, growths_after, Part}
use Rattle.batch.proofs.part.weigh_part.Given as goal

abbrev pub invariant-loop-more : goal.invariant-loop-more
invariant-loop-more l = (3 * l.files ≤ length l.answers) × (length l.answers ≡ length l.initial.answers) × (512 * l.files ≤ l.at) × (l.at ≤ length l.bytes)
    × ((A : Automaton) → Headed A l.header l.table → Cached A l.initial.cache
    → Cached A l.cache × Part A l.bytes l.initial.answers l.answers (record { files = l.files; bytes = l.at; more = l.more })
    × (l.growths ≡ growths_after A l.files l.bytes l.initial.growths)) × (l.at ≤ 4608 * l.files) × (length l.growths ≡ length l.initial.growths) × (drop l.at l.bytes ≡ after_files l.files l.bytes)

abbrev pub decreases-loop-more : goal.decreases-loop-more
decreases-loop-more l = length l.bytes - l.at
