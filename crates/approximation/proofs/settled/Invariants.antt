-- `approximation::settled` meets its contract. The invariant: the turns left lead from the sets to the least.
-- Assumes nothing.
-- one turn: nothing is new, or the rest goes on from what was formed
-- no turn is left
use Prim.Native.Nat.{◌-◌, ◌≤◌}
use mathlib.Core.Path.{◌≡◌}
use Rattle.algorithms.specs.Automaton.{Automaton}
use Rattle.algorithms.specs.Approximate.{settled}
use Rattle.overloops.specs.Ready.{Headed}
use Rattle.classes.specs.Classes.{parts_in}
use Rattle.approximation.proofs.settled.Given as goal

abbrev pub invariant-loop-turn : goal.invariant-loop-turn
invariant-loop-turn l = (l.turn ≤ 1153)
    × ((A : Automaton) → Headed A l.header l.table → settled A (1153 - l.turn) (parts_in l.sets) ≡ settled A 1153 (parts_in l.initial.sets))
