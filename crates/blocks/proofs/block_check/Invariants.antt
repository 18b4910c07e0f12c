-- `blocks::block_check` meets its contract. The invariant: the four sums together are b + 1 and the first 4 k words, modulo 2^32.
-- Assumes nothing.
use Rattle.std.proofs.Common.{◌≡◌, ◌+◌, ◌*◌, ◌%◌, ◌^◌, ◌≤◌}
use Rattle.blocks.specs.Blocks.{word_sum}
use Rattle.blocks.specs.Sums.{total}
use Rattle.blocks.proofs.block_check.Given as goal

abbrev pub invariant-loop-k : goal.invariant-loop-k
invariant-loop-k l = (l.k ≤ 31) × (total l.sums % 2 ^ 32 ≡ (l.b + 1 + word_sum l.file l.start (4 * l.k)) % 2 ^ 32)
