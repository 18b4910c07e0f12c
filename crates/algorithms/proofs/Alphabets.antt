-- The alphabet of an automaton lists its leaf and its branch symbols, and no other.
use mathlib.Core.Path.{◌≡◌}
use mathlib.Core.Logic.{◌⊎◌, inl, inr}
use mathlib.Core.Bool.{Bool, true, false}
use mathlib.Core.List.Memᴰ
use mathlib.Core.List.{List}
use Prim.Native.Nat.{ℕ, zero, suc, ◌+◌, ◌≤◌, ◌<◌}
use native.Mathlib.Omega.{arith}
use native.Mathlib.Decide.{ℕ_discrete}
use lib.Dec.{T, eqb, eqb→eq}
use Rattle.relation.specs.Bit.{bit}
use Rattle.model.specs.Lists.{◌∈◌}
use Rattle.algorithms.specs.Automaton.{cons_if, numbered}
use Rattle.algorithms.proofs.Tests.{eq-T}

of-cons_if : (t : Bool) (x : ℕ) (xs : List ℕ) (y : ℕ) → y ∈ cons_if t x xs → (T t × (y ≡ x)) ⊎ (y ∈ xs)
of-cons_if true x xs y (Memᴰ.head e) = inl (tt, e)
of-cons_if true x xs y (Memᴰ.tail m) = inr m
of-cons_if false x xs y m = inr m

to-cons_if : (t : Bool) (x : ℕ) (xs : List ℕ) (y : ℕ) → (T t × (y ≡ x)) ⊎ (y ∈ xs) → y ∈ cons_if t x xs
to-cons_if true x xs y (inl e) = Memᴰ.head e.1
to-cons_if true x xs y (inr m) = Memᴰ.tail m
to-cons_if false x xs y (inl e) = absurd e.0
to-cons_if false x xs y (inr m) = m

pub of-numbered : (b set at k σ : ℕ) → σ ∈ numbered b set at k → (at ≤ σ) × (σ < at + k) × (bit set σ ≡ b)
of-numbered b set at zero σ m = absurd (Memᴰ.not-nil m)
of-numbered b set at (suc k) σ m = by (of-numbered b set (suc at) k σ) (of-cons_if (eqb (bit set at) b) at (numbered b set (suc at) k) σ m)
  where
    by : (σ ∈ numbered b set (suc at) k → (suc at ≤ σ) × (σ < suc at + k) × (bit set σ ≡ b)) →
        (T (eqb (bit set at) b) × (σ ≡ at)) ⊎ (σ ∈ numbered b set (suc at) k) → (at ≤ σ) × (σ < at + suc k) × (bit set σ ≡ b)
    by later (inl e) = (omega (arith, e.1), omega (arith, e.1), rw e.1 (eqb→eq (bit set at) b e.0))
    by later (inr m) = let r = later m in (omega (arith, r.0), omega (arith, r.1), r.2)

pub to-numbered : (b set at k σ : ℕ) → at ≤ σ → σ < at + k → bit set σ ≡ b → σ ∈ numbered b set at k
to-numbered b set at zero σ h l e = absurd (omega arith)
to-numbered b set at (suc k) σ h l e =
    to-cons_if (eqb (bit set at) b) at (numbered b set (suc at) k) σ
    (by (λ (g : at < σ). to-numbered b set (suc at) k σ g (omega arith) e) (ℕ_discrete σ at))
  where
    by : (at < σ → σ ∈ numbered b set (suc at) k) → Dec (σ ≡ at) → (T (eqb (bit set at) b) × (σ ≡ at)) ⊎ (σ ∈ numbered b set (suc at) k)
    by later (yes s) = inl (eq-T (bit set at) b (rw s at e), s)
    by later (no s) = inr (later (omega arith))
