-- `refusal::lines::first_not_zero` meets its contract. The invariant: what is left of the search gives the answer. What a step passes over need
-- not be zero: from 32 on every bit of a `u32` is 0, and it is before the payload's end.
-- Assumes nothing.
use Prim.Native.Nat.{◌-◌}
use mathlib.Core.Path.{◌≡◌}
use lib.ListN.{length}
use Rattle.blocks.specs.Search.{lowest, lowest_from}
use Rattle.refusal.specs.Lines.{not_zero}
use Rattle.refusal.proofs.lines.first_not_zero.Given as goal

abbrev pub invariant-loop-at : goal.invariant-loop-at
invariant-loop-at l = lowest (not_zero l.zeros l.end l.content) (length l.content) ≡ lowest_from (not_zero l.zeros l.end l.content) l.at (length l.content - l.at)

abbrev pub decreases-loop-at : goal.decreases-loop-at
decreases-loop-at l = length l.content - l.at
