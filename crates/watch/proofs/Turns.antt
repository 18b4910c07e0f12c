-- A turn of the walk: the five ways in which it goes on or ends, and induction over them.
-- Assumes nothing.
use Rattle.std.proofs.Common.{Option, Some, None}
use Prim.Native.Nat.{ℕ, zero, suc, ◌+◌, ◌≤◌}
use native.Mathlib.Omega.{arith}
use mathlib.Core.Path.{◌≡◌, refl, ap, ◌∙◌}
use mathlib.Core.Bool.{Bool, true, false}
use lib.Dec.{eqb}
use lib.ListN.{length}
use borrow.Author.Tests.{eq-eqb, ne_eqb, eqb-true, eqb-false}
use Rattle.model.specs.Trees.{Tree}
use Rattle.algorithms.specs.Automaton.{Automaton}
use Rattle.steps.specs.Successors.{to, successor}
use Rattle.steps.specs.declared.Configuration.{Configuration}
use Rattle.watch.specs.Walk.{Walk, ends, logged, in_order, passes, most_steps, walk_from}
use Rattle.watch.specs.declared.Watched.{Watched}

module _ (A : Automaton) (t : Tree) where
  -- ---- by what a turn has seen

  module _ (left made i p : ℕ) where
    pub walk-passed : passes A i p ≡ true → walk_from A t left made i p ≡ ends made i p Watched.Passed
    unfolding walk_from
    walk-passed e = go left
      where
        go : (left : ℕ) → walk_from A t left made i p ≡ ends made i p Watched.Passed
        go zero = rw e
        go (suc left) = rw e

    pub walk-stuck : passes A i p ≡ false → successor A t i p ≡ None → walk_from A t left made i p ≡ ends made i p Watched.Stuck
    unfolding walk_from
    walk-stuck e n = go left
      where
        go : (left : ℕ) → walk_from A t left made i p ≡ ends made i p Watched.Stuck
        go zero = rw (e, n)
        go (suc left) = rw (e, n)

    module _ (e : passes A i p ≡ false) (j q : ℕ) (n : successor A t i p ≡ to j q) where
      pub walk-circling : made ≡ most_steps A t → walk_from A t left made i p ≡ ends made i p Watched.Circling
      unfolding walk_from
      walk-circling m = go left
        where
          go : (left : ℕ) → walk_from A t left made i p ≡ ends made i p Watched.Circling
          go zero = rw (e, n, eq-eqb made (most_steps A t) m)
          go (suc left) = rw (e, n, eq-eqb made (most_steps A t) m)

      module _ (m : made ≡ most_steps A t → ⊥) where
        pub walk-spent : left ≡ 0 → walk_from A t left made i p ≡ ends made i p Watched.Spent
        unfolding walk_from
        walk-spent z = ap (λ (k : ℕ). walk_from A t k made i p) z ∙ rw (e, n, ne_eqb made (most_steps A t) m)

        pub walk-on : (less : ℕ) → left ≡ suc less → walk_from A t left made i p ≡ logged i p (walk_from A t less (made + 1) j q)
        unfolding walk_from
        walk-on less z = ap (λ (k : ℕ). walk_from A t k made i p) z ∙ rw (e, n, ne_eqb made (most_steps A t) m)

  -- ---- induction

  module _ (P : (left made i p : ℕ) → Walk → Type 0)
      (passed : (left made i p : ℕ) → passes A i p ≡ true → P left made i p (ends made i p Watched.Passed))
      (stuck : (left made i p : ℕ) → passes A i p ≡ false → successor A t i p ≡ None → P left made i p (ends made i p Watched.Stuck))
      (circling : (left made i p j q : ℕ) → passes A i p ≡ false → successor A t i p ≡ to j q → made ≡ most_steps A t
      → P left made i p (ends made i p Watched.Circling))
      (spent : (made i p j q : ℕ) → passes A i p ≡ false → successor A t i p ≡ to j q → (made ≡ most_steps A t → ⊥)
      → P 0 made i p (ends made i p Watched.Spent))
      (on : (left made i p j q : ℕ) → passes A i p ≡ false → successor A t i p ≡ to j q → (made ≡ most_steps A t → ⊥)
      → P left (made + 1) j q (walk_from A t left (made + 1) j q) → P (suc left) made i p (logged i p (walk_from A t left (made + 1) j q))) where
    pub by-turns : (left made i p : ℕ) → P left made i p (walk_from A t left made i p)
    unfolding walk_from
    by-turns zero made i p = go (passes A i p) refl (successor A t i p) refl (eqb made (most_steps A t)) refl
      where
        go : (b : Bool) → passes A i p ≡ b → (x : Option Configuration) → successor A t i p ≡ x → (c : Bool) → eqb made (most_steps A t) ≡ c
            → P zero made i p (in_order b x c (ends made i p) (λ j q. ends made i p Watched.Spent))
        go true e x f c g = passed zero made i p e
        go false e None f c g = stuck zero made i p e f
        go false e (Some d) f true g = circling zero made i p d.node d.state.0 e f (eqb-true made _ g)
        go false e (Some d) f false g = spent made i p d.node d.state.0 e f (eqb-false made _ g)
    by-turns (suc left) made i p =
        go (passes A i p) refl (successor A t i p) refl (eqb made (most_steps A t)) refl (λ j q. by-turns left (made + 1) j q)
      where
        go : (b : Bool) → passes A i p ≡ b → (x : Option Configuration) → successor A t i p ≡ x → (c : Bool) → eqb made (most_steps A t) ≡ c
            → ((j q : ℕ) → P left (made + 1) j q (walk_from A t left (made + 1) j q))
            → P (suc left) made i p (in_order b x c (ends made i p) (λ j q. logged i p (walk_from A t left (made + 1) j q)))
        go true e x f c g later = passed (suc left) made i p e
        go false e None f c g later = stuck (suc left) made i p e f
        go false e (Some d) f true g later = circling (suc left) made i p d.node d.state.0 e f (eqb-true made _ g)
        go false e (Some d) f false g later = on left made i p d.node d.state.0 e f (eqb-false made _ g) (later d.node d.state.0)

  -- one entry for the start and one for each step
  pub few-entries : (left made i p : ℕ) → length (walk_from A t left made i p).entries ≤ left + 1
  few-entries =
      by-turns (λ left made i p w. length w.entries ≤ left + 1) (λ left made i p e. omega arith) (λ left made i p e n. omega arith)
      (λ left made i p j q e n m. omega arith) (λ made i p j q e n m. omega arith) (λ left made i p j q e n m h. omega (arith, h))
