-- `candidates::round` meets its contract: the leaf symbols in round 0, the branch symbols later.
-- Assumes nothing.
use Rattle.candidates.proofs.Rounds.{leaves-tried, branches-tried}
use Rattle.candidates.proofs.round.Goals as goal

pub returns-then-height-eq0 : goal.returns-then-height-eq0
returns-then-height-eq0 c =
    let zero = c.if-height-eq0.true in
    (c.try_leaves.ensures.0, λ A k base h e f s. leaves-tried A _ _ k.headed _ base _ zero (f zero) (c.try_leaves.ensures.1 A k))

pub returns-else-height-eq0 : goal.returns-else-height-eq0
returns-else-height-eq0 c = (
  c.try_branches.ensures.0,
  λ A k base h e f s. branches-tried A _ _ k.headed _ base _ _ c.if-height-eq0.false e (c.try_branches.ensures.1 A k.headed base h e s),
)
