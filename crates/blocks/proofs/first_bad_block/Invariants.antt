-- `blocks::first_bad_block` meets its contract. The invariant: what is left of the search, from b on, gives the answer.
-- Assumes nothing.
use Rattle.std.proofs.Common.{◌≡◌, ◌-◌, ◌≤◌}
use Rattle.blocks.specs.Blocks.{check_wrong}
use Rattle.blocks.specs.Search.{lowest, lowest_from}
use Rattle.blocks.proofs.first_bad_block.Given as goal

abbrev pub invariant-loop-b : goal.invariant-loop-b
invariant-loop-b l = (l.b ≤ l.blocks) × (lowest (check_wrong l.file) l.blocks ≡ lowest_from (check_wrong l.file) l.b (l.blocks - l.b))
