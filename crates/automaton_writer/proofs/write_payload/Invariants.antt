-- `automaton_writer::write_payload` meets its contract.
-- Assumes nothing.
use Prim.Native.Nat.{◌≤◌}
use mathlib.Core.Path.{◌≡◌}
use mathlib.Core.List.{◌++◌}
use lib.ListN.{length, take, drop}
use Rattle.automaton.specs.Payload.{payload_of}
use Rattle.automaton_writer.proofs.write_payload.Given as goal

abbrev pub invariant-loop-i : goal.invariant-loop-i
invariant-loop-i l = (l.i ≤ l.len) × (length l.payload ≡ length l.initial.payload) × (l.payload ≡ take l.i (payload_of l.header l.records) ++ drop l.i l.initial.payload)
