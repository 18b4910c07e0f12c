-- `automaton_writer::payload_byte` meets its contract.
-- Assumes nothing.
use native.Mathlib.Omega.{arith}
use Prim.Native.Nat.{◌-◌}
use mathlib.Core.Path.{sym, ◌∙◌}
use Rattle.automaton_writer.proofs.Bytes.{front-byte, record-byte}
use Rattle.automaton_writer.proofs.payload_byte.Goals as goal

pub returns-then-i-lt20 : goal.returns-then-i-lt20
returns-then-i-lt20 c =
    let a = c.args in
    c.header_byte.ensures ∙ sym (front-byte a.header a.records.now a.i (omega arith))

pub returns : goal.returns
returns c = let a = c.args in sym (record-byte a.header a.records.now a.i (a.i - 20) (omega arith))
