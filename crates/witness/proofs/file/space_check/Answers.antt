-- `witness::file::space_check` meets its contract.
-- Assumes nothing.
use Rattle.witness.proofs.Space.{not-large, counted, room-is}
use Rattle.witness.specs.Written.{space_check}
use native.Mathlib.Omega.{arith}
use Rattle.witness.proofs.file.space_check.Goals as goal

pub returns : goal.returns
unfolding space_check
returns c =
    let p = c.args.plan.now in
    let n = c.plan_size-nodes.ensures in
    rw (not-large p _ n (omega arith)) (room-is p _ _ (counted p _ n (omega arith)) c.room_check.ensures)
