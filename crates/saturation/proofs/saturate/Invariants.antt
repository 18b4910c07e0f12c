-- `saturation::saturate` meets its contract. The invariant: the tables as a round begins, and what the rounds from here on say.
-- Assumes nothing.
-- the rows as the round begins are marked
-- what the round tried, whatever the rows are
use Prim.Native.Nat.{◌-◌, ◌≤◌}
use mathlib.Core.Path.{◌≡◌}
use lib.ListN.{length}
use Rattle.algorithms.specs.Automaton.{Automaton}
use Rattle.classes.specs.Prepared.{ReadyFor}
use Rattle.saturation.proofs.Ending.{Begins}
use Rattle.saturation.proofs.saturate.Given as goal

abbrev pub invariant-loop-origin : goal.invariant-loop-origin
invariant-loop-origin l = (l.old ≤ l.n) × (l.n ≤ 64) × (l.height ≤ l.n) × (length l.doubles ≡ 128) × ((A : Automaton) → ReadyFor A l.prepared → Begins A l.rows l.doubles l.old l.n l.height)

abbrev pub decreases-loop-origin : goal.decreases-loop-origin
decreases-loop-origin l = 65 - l.n
