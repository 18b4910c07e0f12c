-- `watch::walk_nodes` meets its contract: the tables are filled, and the run is followed.
-- Assumes nothing.
use Rattle.watch.proofs.Holding.{tree-stands, most-low, walkable}
use Rattle.watch.proofs.walk_nodes.Goals as goal

pub overflow_mul-most : goal.overflow_mul-most
overflow_mul-most c = record { fits = most-low c.requires.0 }

pub follow-requires : goal.follow-requires
follow-requires c =
    let pre = c.requires in
    let held = pre.0 in
    rw c.lowest.ensures.0
    (walkable held _ _ _ _ _ pre.1 c.choose.ensures (c.link.ensures _ (tree-stands held)), pre.2, pre.3)

pub returns : goal.returns
returns c =
    λ held.
    let pre = c.requires in
    (rw c.lowest.ensures.0 at c.follow.ensures)
    (walkable held _ _ _ _ _ pre.1 c.choose.ensures (c.link.ensures _ (tree-stands held)))
