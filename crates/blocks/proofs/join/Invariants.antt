-- `blocks::join` meets its contract. The invariant: at the front are the contents of the first b blocks, and the rest is as it was.
-- Assumes nothing.
use Rattle.std.proofs.Common.{◌≡◌, ◌*◌, ◌≤◌, ◌++◌, length, drop}
use Rattle.blocks.specs.Blocks.{contents}
use Rattle.blocks.proofs.join.Given as goal

abbrev pub invariant-loop-b : goal.invariant-loop-b
invariant-loop-b l = (l.b ≤ l.blocks) × (length l.out ≡ length l.initial.out) × (l.out ≡ contents l.b l.file ++ drop (508 * l.b) l.initial.out)
