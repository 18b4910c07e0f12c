-- `class_tables::put_side` meets its contract.
-- Assumes nothing.
use Rattle.class_tables.proofs.put_side.Goals as goal

pub returns : goal.returns
returns c = rw c.side_number.ensures.0 at c.put_rows.ensures
