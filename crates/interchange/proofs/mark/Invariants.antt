-- `interchange::mark` meets its contract. The invariant: the rows before are marked.
-- Assumes nothing.
use Prim.Native.Nat.{ℕ, ◌≤◌, ◌<◌}
use mathlib.Core.Path.{◌≡◌}
use lib.ListN.{length}
use Rattle.algorithms.specs.Automaton.{Automaton}
use Rattle.algorithms.specs.Saturate.{Parts}
use Rattle.representatives.specs.Stored.{class_in}
use Rattle.interchange.specs.Interchange.{Enters, Marked}
use Rattle.interchange.proofs.mark.Given as goal

abbrev pub invariant-loop-row : goal.invariant-loop-row
invariant-loop-row l = (l.from ≤ l.row) × (l.row ≤ l.to) × (length l.doubles ≡ 128) × ((A : Automaton) → Enters A l.symbols l.entered
    → (class : ℕ → Parts) → ((i : ℕ) → i < l.to → class_in l.rows i ≡ class i) → Marked A class l.from l.initial.doubles → Marked A class l.row l.doubles)
