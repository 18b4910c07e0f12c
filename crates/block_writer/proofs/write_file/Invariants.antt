-- `block_writer::write_file` meets its contract.
-- Assumes nothing.
use Rattle.std.proofs.Common.{◌≡◌, ◌/◌, ◌%◌, ◌<◌, ◌≤◌, ◌++◌, length, take, drop}
use Rattle.blocks.specs.FileOf.{check_for, file_of}
use Rattle.block_writer.proofs.write_file.Given as goal

abbrev pub invariant-loop-i : goal.invariant-loop-i
invariant-loop-i l = (l.i ≤ l.len) × (length l.out ≡ length l.initial.out) × (l.out ≡ take l.i (file_of l.payload) ++ drop l.i l.initial.out)
    × (508 < l.i % 512 → l.check ≡ check_for l.payload (l.i / 512))
