-- The configurations of a tree by node number and state, all of them in a list of nodes × states, and the step between them.
-- Assumes nothing.
use Rattle.std.proofs.Common.{Option, Some, None}
use Prim.Native.Nat.{ℕ, zero, suc, ◌*◌, ◌<◌}
use native.Mathlib.Nat.{suc-mul}
use native.Mathlib.Decide.{ℕ_discrete}
use native.Mathlib.Omega.{arith}
use mathlib.Core.Path.{◌≡◌, refl, ap, ◌∙◌}
use mathlib.Core.Logic.{◌⊎◌, inl, inr}
use mathlib.Core.List.Memᴰ
use mathlib.Core.List.{List, [], ◌∷◌, ◌++◌, map}
use lib.ListN.{length, length-append, length-map}
use Rattle.model.specs.Lists.{◌∈◌, count_from}
use Rattle.model.specs.Trees.{Tree, size}
use Rattle.model.proofs.ListLaws.{mem-count_from, of-count_from}
use Rattle.algorithms.specs.Automaton.{Automaton, Proper}
use Rattle.links.proofs.Numbering.{all_named}
use Rattle.steps.specs.Successors.{successor}
use Rattle.steps.specs.declared.Configuration.{Configuration}
use Rattle.steps.proofs.Stepping.{into-state, into-node, step-led}
use Rattle.watch.specs.Walk.{Entry}

-- ---- the list

abbrev pub at : ℕ → ℕ → Entry
at i p = (i, p)

pub grid : (k n : ℕ) → List Entry
grid zero n = []
grid (suc k) n = map (at k) (count_from 0 n) ++ grid k n

count-length : (s n : ℕ) → length (count_from s n) ≡ n
unfolding count_from
count-length s zero = refl
count-length s (suc n) = ap suc (count-length (suc s) n)

pub grid-length : (k n : ℕ) → length (grid k n) ≡ k * n
unfolding grid
grid-length zero n = omega arith
grid-length (suc k) n =
    length-append (map (at k) (count_from 0 n)) (grid k n)
    ∙ omega (arith, length-map (count_from 0 n) (at k), count-length 0 n, grid-length k n, suc-mul k n)

mem-row : (k : ℕ) {p : ℕ} {l : List ℕ} → p ∈ l → at k p ∈ map (at k) l
mem-row k (Memᴰ.head e) = Memᴰ.head (ap (at k) e)
mem-row k (Memᴰ.tail m) = Memᴰ.tail (mem-row k m)

of_row : (k : ℕ) (l : List ℕ) {e : Entry} → e ∈ map (at k) l → (e.0 ≡ k) × (e.1 ∈ l)
of_row k [] m = absurd (Memᴰ.not-nil m)
of_row k (p ∷ l) (Memᴰ.head f) = (ap (λ (e : Entry). e.0) f, Memᴰ.head (ap (λ (e : Entry). e.1) f))
of_row k (p ∷ l) (Memᴰ.tail m) = let r = of_row k l m in (r.0, Memᴰ.tail r.1)

pub mem-grid : (k n i p : ℕ) → i < k → p < n → at i p ∈ grid k n
unfolding grid
mem-grid zero n i p h l = absurd (omega arith)
mem-grid (suc k) n i p h l = go (ℕ_discrete i k) (λ g. mem-grid k n i p g l)
  where
    go : Dec (i ≡ k) → (i < k → at i p ∈ grid k n) → at i p ∈ map (at k) (count_from 0 n) ++ grid k n
    go (yes e) later =
        let m : at k p ∈ map (at k) (count_from 0 n) = mem-row k (mem-count_from 0 n p (omega arith) (omega arith)) in
        rw e (Memᴰ.append_left _ m)
    go (no f) later = Memᴰ.append_right (map (at k) (count_from 0 n)) (later (omega arith))

of-grid : (k n : ℕ) {e : Entry} → e ∈ grid k n → (e.0 < k) × (e.1 < n)
unfolding grid
of-grid zero n m = absurd (Memᴰ.not-nil m)
of-grid (suc k) n {e} m = go (Memᴰ.append_cases (map (at k) (count_from 0 n)) m) (λ h. of-grid k n h)
  where
    go : (e ∈ map (at k) (count_from 0 n)) ⊎ (e ∈ grid k n) → (e ∈ grid k n → (e.0 < k) × (e.1 < n)) → (e.0 < suc k) × (e.1 < n)
    go (inl h) later = let r = of_row k (count_from 0 n) h in let b = of-count_from 0 n e.1 r.1 in (omega arith, omega arith)
    go (inr h) later = let r = later h in (omega arith, r.1)

pub entry-eq : (x y : Entry) → Dec (x ≡ y)
entry-eq x y = go (ℕ_discrete x.0 y.0) (ℕ_discrete x.1 y.1)
  where
    go : Dec (x.0 ≡ y.0) → Dec (x.1 ≡ y.1) → Dec (x ≡ y)
    go (yes e) (yes f) = yes (λ n. (e n, f n))
    go (no h) d = no (λ e. h (ap (λ (z : Entry). z.0) e))
    go (yes e) (no h) = no (λ e. h (ap (λ (z : Entry). z.1) e))

-- ---- the step; where there is none the configuration stays

abbrev pub moved : Option Configuration → Entry → Entry
moved (Some c) e = (c.node, c.state.0)
moved None e = e

unfoldable pub after : Automaton → Tree → Entry → Entry
after A t e = moved (successor A t e.0 e.1) e

-- none leaves the list
module _ (A : Automaton) (proper : Proper A) (t : Tree) where
  pub closed : (e : Entry) → e ∈ grid (size t) A.states → after A t e ∈ grid (size t) A.states
  unfolding after
  closed e m = go (successor A t e.0 e.1) refl
    where
      go : (x : Option Configuration) → successor A t e.0 e.1 ≡ x → moved x e ∈ grid (size t) A.states
      go None g = m
      go (Some c) g =
          let inside = of-grid (size t) A.states m in
          let named = all_named t e.0 inside.0 in
          let l = step-led A proper t named.2 e.1 c.node c.state.0 g in
          mem-grid (size t) A.states c.node c.state.0 (into-node l) (into-state A proper l.step)
