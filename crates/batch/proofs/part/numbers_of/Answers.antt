-- `batch::part::numbers_of` meets its contract.
-- Assumes nothing.
use mathlib.Core.Path.{refl}
use Rattle.batch.proofs.part.numbers_of.Goals as goal

pub returns-in-Err : goal.returns-in-Err
returns-in-Err c = rw c.in-Err.is refl
