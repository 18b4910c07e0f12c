-- `overloops::leaf_part` meets its contract: a leaf is a node whose parts have no overloops.
-- Assumes nothing.
use Rattle.overloops.proofs.Laws.{leaf-formed, leaf-grown}
use Rattle.overloops.proofs.leaf_part.Goals as goal

pub returns : goal.returns
returns c = (
  λ A k.
      let none = c.empty-none.ensures in
      let part = c.part_in.ensures.0 A k in
      (leaf-formed A k.proper _ _ none none part.0, leaf-grown A k.proper _ _ none none part.1),
  c.part_in.ensures.1,
)
