-- `reporting::read_part` meets its contract: what was asked, and the bytes before stay.
-- Assumes nothing.
use Prim.Native.Nat.{◌-◌, ◌≤◌}
use Rattle.reporting.specs.Trace.{read_gave}
use native.Mathlib.Omega.{arith}
use lib.ListN.{drop, length-take, length-drop}
use borrow.Rule.Slice.PartMut.{take_put}
use Rattle.reporting.proofs.read_part.Goals as goal

pub returns : goal.returns
returns c =
    let k = c.args in
    let few : c.read_full.result ≤ k.to - k.from =
    omega (arith, c.read_full.ensures.0, c.buffer-1.given.0, length-take (k.to - k.from) (drop k.from k.buffer.now), length-drop k.from k.buffer.now) in (
      omega (arith, c.requires),
      take_put k.from (k.to - k.from) k.buffer.now c.read_full.new.buf (omega (arith, c.requires)),
      read_gave k.input (k.to - k.from) c.read_full.result few,
      omega (arith, c.buffer-1.given.1, c.requires),
    )
