-- `tags::first_bad_tag` meets its contract.
-- Assumes nothing.
use Prim.Native.Nat.{◌-◌, ◌≤◌}
use mathlib.Core.Path.{◌≡◌}
use lib.ListN.{length}
use Rattle.blocks.specs.Search.{lowest, lowest_from}
use Rattle.tags.specs.Tags.{bad_tag}
use Rattle.tags.proofs.first_bad_tag.Given as goal

abbrev pub invariant-loop-at : goal.invariant-loop-at
invariant-loop-at l = (l.at ≤ length l.text) × (lowest (bad_tag l.branches l.text) (length l.text) ≡ lowest_from (bad_tag l.branches l.text) l.at (length l.text - l.at))
