-- `automaton_writer::count_byte` meets its contract.
-- Assumes nothing.
use native.Mathlib.Omega.{arith}
use mathlib.Core.Path.{sym}
use Rattle.automaton.specs.Payload.{payload_of}
use Rattle.automaton_writer.proofs.Bytes.{zero-byte}
use Rattle.automaton_writer.proofs.count_byte.Goals as goal

pub returns-in-0 : goal.returns-in-0
unfolding payload_of
returns-in-0 c = rw c.in-0.is

pub returns-in-1 : goal.returns-in-1
unfolding payload_of
returns-in-1 c = rw c.in-1.is

pub returns-in-2 : goal.returns-in-2
unfolding payload_of
returns-in-2 c = rw c.in-2.is

pub returns-in-4 : goal.returns-in-4
unfolding payload_of
returns-in-4 c = rw c.in-4.is

pub returns-in-5 : goal.returns-in-5
unfolding payload_of
returns-in-5 c = rw c.in-5.is

pub returns-in_default : goal.returns-in_default
unfolding payload_of
returns-in_default c =
    let a = c.args in
    sym (zero-byte a.header a.i (omega arith) (λ e. omega arith) (λ e. omega arith) (λ e. omega arith) (λ e. omega arith) (λ e. omega arith))
