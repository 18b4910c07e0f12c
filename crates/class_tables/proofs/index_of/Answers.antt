-- `class_tables::index_of` meets its contract.
-- Assumes nothing.
use Rattle.class_tables.proofs.index_of.Goals as goal

pub returns : goal.returns
returns c = (rw c.index_place.ensures.0 at c.wide.ensures.0, c.wide.ensures.1)
