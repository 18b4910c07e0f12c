-- `reading::reading_tree` meets its contract.
-- Assumes nothing.
use mathlib.Core.Path.{ap, ◌∙◌}
use Rattle.reading.specs.Reading.{count_told}
use Rattle.reading.proofs.Told.{or_count}
use Rattle.reading.proofs.reading_tree.Goals as goal

pub returns : goal.returns
returns c =
    let read = c.read_tree.ensures in
    (c.unwrap_or.ensures ∙ or_count c.read_tree.result ∙ ap count_told read.0, rw (← read.0) read.1)
