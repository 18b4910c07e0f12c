-- `steps::leads::moves` meets its contract: case by case.
-- Assumes nothing.
use mathlib.Core.Path.{refl}
use Rattle.steps.proofs.leads.moves.Goals as goal

pub returns-in-Stay : goal.returns-in-Stay
returns-in-Stay c = λ q. rw c.in-Stay.is refl

pub returns-in-Up : goal.returns-in-Up
returns-in-Up c = λ q. rw c.in-Up.is (c.climbs.ensures c.args.rights.now q)

pub returns-in-Down : goal.returns-in-Down
returns-in-Down c = λ q. rw c.in-Down.is (c.descends.ensures c.args.parents.now q)
