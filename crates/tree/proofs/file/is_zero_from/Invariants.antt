-- `tree::file::is_zero_from` meets its contract. The invariant: where what was joined is 0, the bytes up to the present one are.
-- Assumes nothing.
use mathlib.Core.Path.{◌≡◌}
use Rattle.tree.proofs.Unpacking.{ZeroTo}
use Rattle.tree.proofs.file.is_zero_from.Given as goal

abbrev pub invariant-loop-at : goal.invariant-loop-at
invariant-loop-at l = l.all ≡ 0 → ZeroTo l.content l.end l.at
