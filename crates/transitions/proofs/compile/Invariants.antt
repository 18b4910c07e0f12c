-- `transitions::compile` meets its contract. The invariant: the table is that of the first i rules.
-- Assumes nothing.
use Prim.Native.Nat.{◌≤◌}
use Rattle.transitions.specs.Transitions.{next_states}
use Rattle.transitions.specs.Compiled.{Tabulates}
use Rattle.transitions.proofs.compile.Given as goal

abbrev pub invariant-loop-i : goal.invariant-loop-i
invariant-loop-i l = (l.i ≤ l.rules) × Tabulates (next_states l.header l.content l.i) l.table
