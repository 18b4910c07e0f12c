-- `automaton_writer::write_automaton` meets its contract.
-- Assumes nothing.
use native.Mathlib.Omega.{arith}
use mathlib.Core.Path.{◌≡◌, ap}
use lib.ListN.{length, take, length-append}
use Rattle.block_writer.proofs.Front.{front}
use Rattle.automaton.specs.Payload.{payload_of}
use Rattle.automaton_writer.proofs.Bytes.{payload-length}
use Rattle.automaton_writer.proofs.write_automaton.Goals as goal

pub slice_bounds-payload-end : goal.slice_bounds-payload-end
slice_bounds-payload-end c = let w = c.write_payload-len.ensures in omega (arith, w.0, simp length-append at (ap length w.1))

pub slice_bounds-write_file-end : goal.slice_bounds-write_file-end
slice_bounds-write_file-end c =
    let payload-is : take c.write_payload-len.result c.write_payload-len.new.payload
    ≡ payload_of c.args.header c.args.records.now = front _ _ _ _ c.write_payload-len.ensures.0 c.write_payload-len.ensures.1 in
    rw (payload-is) c.write_payload-len.ensures.0

pub write_file-requires : goal.write_file-requires
write_file-requires c =
    let payload-is : take c.write_payload-len.result c.write_payload-len.new.payload
    ≡ payload_of c.args.header c.args.records.now = front _ _ _ _ c.write_payload-len.ensures.0 c.write_payload-len.ensures.1 in
    rw (payload-is, payload-length c.args.header c.args.records.now) c.requires.1

pub returns : goal.returns
returns c =
    let payload-is : take c.write_payload-len.result c.write_payload-len.new.payload
    ≡ payload_of c.args.header c.args.records.now = front _ _ _ _ c.write_payload-len.ensures.0 c.write_payload-len.ensures.1 in
    rw (payload-is) at c.write_file.ensures
