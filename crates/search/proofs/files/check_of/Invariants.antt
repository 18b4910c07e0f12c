-- `crate::files::check_of` ends, after 127 words, and stays within its bounds.
-- Assumes nothing.
use Rattle.std.proofs.Common.{◌≤◌}
use Rattle.search.proofs.files.check_of.Given as goal

abbrev pub invariant-loop-k : goal.invariant-loop-k
invariant-loop-k l = (l.k ≤ 127) × (l.start ≤ 32256)
