-- `representatives::same_at` meets its contract: the right relations are compared where the left are the same.
-- Assumes nothing.
use Rattle.representatives.proofs.Table.{both-same, left-differs}
use Rattle.representatives.proofs.same_at.Goals as goal

pub returns-then-same_rows : goal.returns-then-same_rows
returns-then-same_rows c =
    let a = c.args in
    both-same a.rows.now a.left.now a.right.now a.row.0 c.same_rows.ensures c.if-same_rows.true c.same_rows-then-same_rows.ensures

pub returns-else-same_rows : goal.returns-else-same_rows
returns-else-same_rows c =
    let a = c.args in
    left-differs a.rows.now a.left.now a.right.now a.row.0 c.same_rows.ensures c.if-same_rows.false
