-- `reachability::images` meets its contract. The invariant: of the states that are not left the rows are joined, by each move.
-- Assumes nothing.
-- the lowest state left is below 24
use Prim.Native.Nat.{◌+◌}
use Rattle.reachability.proofs.Imaging.{Joining}
use Rattle.reachability.proofs.images.Given as goal

abbrev pub invariant-loop-rest : goal.invariant-loop-rest
invariant-loop-rest l = Joining l.table l.at l.states l.rest l.stay × Joining l.table (l.at + 24) l.states l.rest l.up × Joining l.table (l.at + 48) l.states l.rest l.left × Joining l.table (l.at + 72) l.states l.rest l.right

abbrev pub decreases-loop-rest : goal.decreases-loop-rest
decreases-loop-rest l = l.rest
