-- `interchange::doubled` meets its contract. The invariant: at each symbol of the set, some row before is interchangeable with the row.
-- Assumes nothing.
use Prim.Native.Nat.{ℕ, ◌≤◌, ◌<◌}
use mathlib.Core.Path.{◌≡◌}
use Rattle.relation.specs.Bit.{bit}
use Rattle.algorithms.specs.Automaton.{Automaton}
use Rattle.representatives.specs.Stored.{class_in}
use Rattle.interchange.specs.Interchange.{Interchangeable, Enters}
use Rattle.interchange.proofs.doubled.Given as goal

abbrev pub invariant-loop-other : goal.invariant-loop-other
invariant-loop-other l = (l.other ≤ l.row) × ((A : Automaton) → Enters A l.symbols l.entered → (σ : ℕ) → bit l.set σ ≡ 1
    → (j : ℕ) × (j < l.other) × Interchangeable A σ l.side (class_in l.rows j) (class_in l.rows l.row))
