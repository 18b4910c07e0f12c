-- `logs::numbers` meets its contract: case by case.
-- Assumes nothing.
use mathlib.Core.Path.{refl}
use Rattle.logs.proofs.numbers.Goals as goal

pub returns-in-Ok : goal.returns-in-Ok
returns-in-Ok c = rw c.in-Ok.is refl

pub returns-in-Err : goal.returns-in-Err
returns-in-Err c = rw c.in-Err.is refl
