-- `membership::leaves::leaf_at` meets its contract.
-- Assumes nothing.
use native.Mathlib.Omega.{arith}
use mathlib.Core.Path.{◌∙◌}
use Rattle.membership.proofs.LeafTables.{rows-read, growth-read}
use Rattle.membership.proofs.leaves.leaf_at.Goals as goal

pub returns : goal.returns
returns c = (
  λ A n b P k l m.
      let cell = c.leaf_cell.ensures.0 in
      let place = c.growth_place.ensures.0 in
      let small = c.requires in
      (rw cell at c.rows_at.ensures ∙ rows-read A P n b _ _ _ _ k l small m, rw place (growth-read A P n b _ _ _ _ k l m)),
  omega arith,
)
