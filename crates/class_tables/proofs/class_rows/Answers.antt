-- `class_tables::class_rows` meets its contract.
-- Assumes nothing.
use Rattle.class_tables.specs.Classes.{rows_of}
use Rattle.class_tables.proofs.class_rows.Goals as goal

pub returns : goal.returns
unfolding rows_of
returns c = cc
