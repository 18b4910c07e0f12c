-- `relation::image_in` meets its contract: at each turn the image of the members left is still to be joined.
-- Assumes nothing.
use mathlib.Core.Path.{◌≡◌}
use Prim.Native.Nat.{◌<◌, ◌^◌}
use lib.Bits.{bit_or}
use Rattle.relation.specs.Rows.{image_of}
use Rattle.relation.proofs.image_in.Given as goal

abbrev pub invariant-loop-rest : goal.invariant-loop-rest
invariant-loop-rest l = (l.rest < 2 ^ 24) × (bit_or l.to (image_of l.rows l.rest) ≡ image_of l.rows l.from)

abbrev pub decreases-loop-rest : goal.decreases-loop-rest
decreases-loop-rest l = l.rest
