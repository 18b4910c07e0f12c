-- `steps::choose` meets its contract. The invariant: each cell that was passed has its choice.
-- Assumes nothing.
use Prim.Native.Nat.{ℕ, ◌≤◌, ◌<◌}
use mathlib.Core.Path.{◌≡◌}
use lib.ListN.{length, get_or}
use Rattle.steps.specs.Choices.{code_at}
use Rattle.steps.proofs.choose.Given as goal

abbrev pub invariant-loop-cell : goal.invariant-loop-cell
invariant-loop-cell l = (l.cell ≤ l.end) × (length l.choices ≡ length l.initial.choices) × ((k : ℕ) → k < l.cell → get_or l.choices k 0 ≡ code_at l.table k)
