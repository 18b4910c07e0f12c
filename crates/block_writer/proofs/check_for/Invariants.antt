-- `block_writer::check_for` meets its contract.
-- Assumes nothing.
use Rattle.std.proofs.Common.{◌≡◌, ◌+◌, ◌%◌, ◌^◌, ◌≤◌}
use Rattle.blocks.specs.Blocks.{word_sum}
use Rattle.block_writer.proofs.check_for.Given as goal

abbrev pub invariant-loop-k : goal.invariant-loop-k
invariant-loop-k l = (l.k ≤ 127) × (l.sum ≡ (l.b + 1 + word_sum l.payload l.start l.k) % 2 ^ 32)
