-- `batch::ends_batch` meets its contract: the definition's cases.
-- Assumes nothing.
use mathlib.Core.Path.{refl}
use Rattle.batch.proofs.ends_batch.Goals as goal

pub returns-in-Err : goal.returns-in-Err
returns-in-Err c = rw c.in-Err.is refl
