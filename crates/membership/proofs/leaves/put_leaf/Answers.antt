-- `membership::leaves::put_leaf` meets its contract.
-- Assumes nothing.
use borrow.Author.Rules.{rules}
use Rattle.membership.proofs.leaves.put_leaf.Goals as goal

pub returns : goal.returns
returns c = (
  λ A k.
      let part = c.leaf_part-part.ensures.0 A k in (
        rw (c.leaf_cell.ensures.0, part.0) at c.put_rows.ensures,
        rw (c.growth_place.ensures.0, part.1),
      ),
  search rules,
  search rules,
)
