-- `determinism::one_symbols` meets its contract. The invariant: each of the first symbols has one choice in each state, at each place.
-- Assumes nothing.
use Prim.Native.Nat.{◌≤◌}
use mathlib.Core.Path.{◌≡◌}
use mathlib.Core.Bool.{true}
use Rattle.transitions.specs.Compiled.{next_in}
use Rattle.determinism.specs.Determined.{one_symbols}
use Rattle.determinism.proofs.one_symbols.Given as goal

abbrev pub invariant-loop-symbol : goal.invariant-loop-symbol
invariant-loop-symbol l = (l.symbol ≤ l.symbols) × (one_symbols (next_in l.table) l.states l.symbol ≡ true)
