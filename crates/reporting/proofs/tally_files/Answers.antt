-- `reporting::tally_files` meets its contract: its tables are a cache of every automaton.
-- Assumes nothing.
use Rattle.batch.proofs.Tallying.{fresh-cached}
use Rattle.reporting.proofs.tally_files.Goals as goal

pub returns : goal.returns
returns c A k = c.tally_pieces.ensures A k (fresh-cached A _ c.fresh-cache.ensures)
