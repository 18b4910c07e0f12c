-- `counting::count_all` meets its contract. The invariant: what is left to count comes to what all answers come to.
-- Assumes nothing.
use Rattle.std.proofs.Common.{◌≡◌, ◌*◌, drop}
use Rattle.counting.specs.Counting.{counted_all}
use Rattle.counting.proofs.count_all.Given as goal

abbrev pub invariant-loop-i : goal.invariant-loop-i
invariant-loop-i l = counted_all l.fn.before l.answers ≡ counted_all l.tally (drop (3 * l.i) l.answers)
