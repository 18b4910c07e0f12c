-- `block_writer::room_check` meets its contract.
-- Assumes nothing.
use Rattle.std.proofs.Common.{◌*◌, sym, ◌∙◌, arith}
use Rattle.blocks.specs.FileOf.{blocks_needed}
use Rattle.block_writer.proofs.Answers.{room-short, room-enough}
use Rattle.block_writer.proofs.room_check.Goals as goal

pub returns-then-room-needed : goal.returns-then-room-needed
returns-then-room-needed c =
    let a = c.args in
    c.refused.ensures ∙ sym (room-short (512 * blocks_needed a.payload) a.room (omega (arith, c.if-room-needed.true)))

pub returns : goal.returns
returns c =
    let a = c.args in
    sym (room-enough (512 * blocks_needed a.payload) a.room (omega (arith, c.if-room-needed.false)))
