-- `emptiness::plan::put_row` meets its contract. The invariant: the first k bytes of the row are pasted into the buffer.
-- Assumes nothing.
use Prim.Native.Nat.{◌≤◌}
use mathlib.Core.Path.{◌≡◌}
use lib.ListN.{length}
use lib.Seq.{paste}
use Rattle.emptiness.proofs.plan.put_row.Given as goal

abbrev pub invariant-loop-k : goal.invariant-loop-k
invariant-loop-k l = (l.k ≤ 3) × (length l.plan ≡ length l.initial.plan) × (l.plan ≡ paste l.initial.plan l.at l.bytes l.k)
