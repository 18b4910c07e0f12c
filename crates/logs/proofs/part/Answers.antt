-- `logs::part` meets its contract: a refusal has an empty part.
-- Assumes nothing.
use Rattle.logs.proofs.part.Goals as goal

pub returns-in-Ok : goal.returns-in-Ok
returns-in-Ok c = record { itself = c.common.ensures.itself; equals = rw c.in-Ok.is c.common.ensures.equals }
