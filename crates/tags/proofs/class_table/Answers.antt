-- `tags::class_table` meets its contract: the table's rule is one test at each of its entries, which antt computes.
-- Assumes nothing.
use mathlib.Core.Path.{refl}
use Rattle.tags.specs.Classes.{class_of}
use Rattle.tags.proofs.Classed.{has_class, classed}
use Rattle.tags.proofs.class_table.Goals as goal

pub returns : goal.returns
unfolding has_class class_of
returns c = classed _ tt refl
