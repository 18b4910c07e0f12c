-- `interchange::avoiding` meets its contract. The invariant: the symbols in the set are below the next, and avoid the states.
-- Assumes nothing.
use mathlib.Core.Path.{◌≡◌}
use Prim.Native.Nat.{ℕ, ◌+◌, ◌*◌, ◌≤◌, ◌<◌}
use lib.Bits.{bit_and}
use lib.ListN.{get_or}
use Rattle.relation.specs.Bit.{bit}
use Rattle.interchange.proofs.avoiding.Given as goal

abbrev pub invariant-loop-symbol : goal.invariant-loop-symbol
invariant-loop-symbol l = (l.symbol ≤ l.symbols) × ((σ : ℕ) → bit l.out σ ≡ 1 → (σ < l.symbol) × (bit_and (get_or l.entered (σ * 2 + l.at) 0) l.set ≡ 0))
