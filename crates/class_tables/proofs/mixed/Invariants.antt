-- `class_tables::mixed` is safe and ends.
-- Assumes nothing.
use Rattle.std.proofs.Common.{◌<◌, ◌≤◌}
use Rattle.class_tables.proofs.mixed.Given as goal

abbrev pub invariant-loop-p : goal.invariant-loop-p
invariant-loop-p l = (l.p ≤ 24) × (l.sum < 4294967296)
