-- `representatives::origin_at` meets its contract: the row's first three words, a byte each.
-- Assumes nothing.
use Rattle.representatives.proofs.Table.{origin-read}
use Rattle.representatives.proofs.origin_at.Goals as goal

pub returns : goal.returns
returns c = origin-read c.args.rows.now c.args.row.0
