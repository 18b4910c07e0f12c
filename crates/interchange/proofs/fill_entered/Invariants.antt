-- `interchange::fill_entered` meets its contract. The invariant: the symbols before are filled in.
-- Assumes nothing.
use Prim.Native.Nat.{◌≤◌}
use mathlib.Core.Path.{◌≡◌}
use lib.ListN.{length}
use Rattle.algorithms.specs.Automaton.{Automaton}
use Rattle.transitions.specs.Compiled.{Compiled}
use Rattle.interchange.specs.Interchange.{Enters}
use Rattle.interchange.proofs.fill_entered.Given as goal

abbrev pub invariant-loop-symbol : goal.invariant-loop-symbol
invariant-loop-symbol l = (l.symbol ≤ l.symbols) × (length l.entered ≡ 64) × ((A : Automaton) → Compiled A l.table → Enters A l.symbol l.entered)
