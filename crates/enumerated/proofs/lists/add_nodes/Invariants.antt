-- `enumerated::lists::add_nodes` ends, after one turn for each symbol.
-- Assumes nothing.
use Prim.Native.Nat.{◌≤◌}
use mathlib.Core.Path.{◌≡◌}
use lib.ListN.{length}
use Rattle.enumerated.proofs.lists.add_nodes.Given as goal

abbrev pub invariant-loop-symbol : goal.invariant-loop-symbol
invariant-loop-symbol l = (l.symbol ≤ l.symbol-end) × (length l.list ≡ length l.initial.list)
