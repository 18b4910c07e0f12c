-- `determinism::one_each` meets its contract. The invariant: each of the first p states has one choice.
-- Assumes nothing.
use Prim.Native.Nat.{◌≤◌}
use mathlib.Core.Path.{◌≡◌}
use mathlib.Core.Bool.{true}
use Rattle.transitions.specs.Compiled.{next_in}
use Rattle.determinism.specs.Determined.{one_each}
use Rattle.determinism.proofs.one_each.Given as goal

abbrev pub invariant-loop-p : goal.invariant-loop-p
invariant-loop-p l = (l.p ≤ l.states) × (one_each (next_in l.table) l.symbol.0 l.place l.p ≡ true)
