-- `automaton_writer::header_byte` meets its contract.
-- Assumes nothing.
use native.Mathlib.Omega.{arith}
use mathlib.Core.Path.{sym, ◌∙◌}
use Rattle.automaton_writer.proofs.Bytes.{initial-byte, accepted-byte, branches-byte}
use Rattle.automaton_writer.proofs.header_byte.Goals as goal

pub returns-then-i-lt12 : goal.returns-then-i-lt12
returns-then-i-lt12 c =
    let a = c.args in
    c.word_byte.ensures ∙ sym (initial-byte a.header a.i (omega arith) (omega arith))

pub returns-then-i-lt16 : goal.returns-then-i-lt16
returns-then-i-lt16 c =
    let a = c.args in
    c.word_byte-then-i-lt16.ensures ∙ sym (accepted-byte a.header a.i (omega arith) (omega arith))

pub returns : goal.returns
returns c =
    let a = c.args in
    c.word_byte-2.ensures ∙ sym (branches-byte a.header a.i (omega arith) (omega arith))
