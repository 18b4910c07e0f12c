-- `crate::files::put_rules` ends, after one turn for each byte.
-- Assumes nothing.
use Rattle.std.proofs.Common.{◌≡◌, ◌≤◌, length}
use Rattle.search.proofs.files.put_rules.Given as goal

abbrev pub invariant-loop-i : goal.invariant-loop-i
invariant-loop-i l = (l.i ≤ l.bytes) × (length l.file ≡ length l.initial.file)
