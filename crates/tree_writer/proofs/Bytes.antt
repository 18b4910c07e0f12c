-- The bytes of a tree's payload, one by one.
-- Assumes nothing.
use Prim.Native.Nat.{ℕ, zero, suc, ◌-◌, ◌≤◌}
use native.Mathlib.Omega.{arith}
use mathlib.Core.Path.{◌≡◌, ap}
use mathlib.Core.List.{List}
use lib.ListN.{get_or}
use Rattle.tree.specs.Payload.{payload_of}

pub payload-at : (nodes : List ℕ) (i : ℕ) → 4 ≤ i → get_or (payload_of nodes) i 0 ≡ get_or nodes (i - 4) 0
unfolding payload_of
payload-at nodes zero h = absurd (omega arith)
payload-at nodes (suc zero) h = absurd (omega arith)
payload-at nodes (suc (suc zero)) h = absurd (omega arith)
payload-at nodes (suc (suc (suc zero))) h = absurd (omega arith)
payload-at nodes (suc (suc (suc (suc i)))) h = ap (λ (k : ℕ). get_or nodes k 0) (omega arith)
