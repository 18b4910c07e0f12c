-- `indexing::alike` meets its contract.
-- Assumes nothing.
-- what holds at each of the three places
use Rattle.model.specs.declared.Side.{Side}
use Rattle.model.specs.declared.Place.{Place}
use native.Mathlib.Omega.{arith}
use Prim.Native.Nat.{ℕ}
use mathlib.Core.Path.{◌≡◌}
use Rattle.indexing.proofs.alike.Goals as goal

each : (P : Place → Type 0) → P Place.Root → P (Place.Child Side.Left) → P (Place.Child Side.Right) → (τ : Place) → P τ
each P a b c Place.Root = a
each P a b c (Place.Child Side.Left) = b
each P a b c (Place.Child Side.Right) = c

pub returns-then-not-alike_at : goal.returns-then-not-alike_at
returns-then-not-alike_at c = λ e A k τ. let z : ◌≡◌ {A = ℕ} 0 1 = cc in absurd (omega arith)

pub returns-then-not-alike_at-2 : goal.returns-then-not-alike_at-2
returns-then-not-alike_at-2 c = λ e A k τ. let z : ◌≡◌ {A = ℕ} 0 1 = cc in absurd (omega arith)

pub returns : goal.returns
returns c = λ e A k. each _ (c.alike_at.ensures (c.if-not-alike_at.false) A k) (c.alike_at-2.ensures (c.if-not-alike_at-2.false) A k) (c.alike_at-3.ensures e A k)
