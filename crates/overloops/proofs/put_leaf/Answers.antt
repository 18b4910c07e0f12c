-- `overloops::put_leaf` meets its contract: the rows of a node without parts go to the leaf's place.
-- Assumes nothing.
use Rattle.overloops.proofs.Laws.{leaf-formed}
use Rattle.overloops.proofs.put_leaf.Goals as goal

pub returns : goal.returns
returns c =
    λ A k.
    let rows = leaf-formed A k.proper _ _ c.empty-none.ensures c.empty-none.ensures (c.node_overloops-rows.ensures A k) in
    rw (c.leaf_cell.ensures.0, rows) at c.put_rows.ensures
