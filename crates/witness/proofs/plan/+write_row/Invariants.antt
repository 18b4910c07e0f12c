-- The measure of `witness::plan::write_row`: the row's number.
-- Assumes nothing.
use Rattle.witness.proofs.plan.+write_row.Given as goal

abbrev pub decreases-write_row : goal.decreases-write_row
decreases-write_row l = l.row.0
