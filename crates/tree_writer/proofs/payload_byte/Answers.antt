-- `tree_writer::payload_byte` meets its contract.
-- Assumes nothing.
use mathlib.Core.Path.{◌≡◌, sym}
use native.Mathlib.Omega.{arith}
use Rattle.tree.specs.Payload.{payload_of}
use Rattle.tree_writer.proofs.Bytes.{payload-at}
use Rattle.tree_writer.proofs.payload_byte.Goals as goal

pub returns-then-i-ge4 : goal.returns-then-i-ge4
returns-then-i-ge4 c = let a = c.args in sym (payload-at a.nodes.now a.i c.if-i-ge4.true)

pub returns-then-i-eq0 : goal.returns-then-i-eq0
unfolding payload_of
returns-then-i-eq0 c = rw c.if-i-eq0.true

pub returns-then-i-eq1 : goal.returns-then-i-eq1
unfolding payload_of
returns-then-i-eq1 c = rw c.if-i-eq1.true

pub returns-then-i-eq2 : goal.returns-then-i-eq2
unfolding payload_of
returns-then-i-eq2 c = rw c.if-i-eq2.true

pub returns : goal.returns
unfolding payload_of
returns c = let e : c.args.i ≡ 3 = omega arith in rw e
