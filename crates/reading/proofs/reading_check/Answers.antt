-- `reading::reading_check` meets its contract.
-- Assumes nothing.
use mathlib.Core.Path.{◌∙◌}
use Rattle.reading.proofs.Told.{or_place}
use Rattle.reading.proofs.reading_check.Goals as goal

pub returns : goal.returns
returns c = rw (← c.first_bad_block.ensures) (c.unwrap_or.ensures ∙ or_place c.first_bad_block.result _)
