-- `crate::definition::column` meets its contract: a byte is at most 255.
-- Assumes nothing.
use Prim.Native.Nat.{◌*◌, ◌≤◌}
use Rattle.block_files.proofs.definition.column.Given as goal

abbrev pub invariant-loop-k : goal.invariant-loop-k
invariant-loop-k l = l.sum ≤ 255 * l.k
