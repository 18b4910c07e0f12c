-- `membership::weigh` meets its contract: a loop at the root leads from an initial state to a final one.
-- Assumes nothing.
use Rattle.membership.proofs.Laws.{accepts-by}
use Rattle.membership.proofs.weigh.Goals as goal

pub returns : goal.returns
returns c =
    λ A k small u h.
    let closed = c.close_tree-closed.ensures A _ k.tabled (c.fill.ensures A k.tabled) small u h in
    (accepts-by A u _ _ _ _ k.initial k.accepting closed.0 c.meets.ensures, closed.1)
