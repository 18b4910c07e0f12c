-- A tree over a signature, in two parts: it has the shape that the branch symbols give it, and its symbols are below their number.
-- Assumes nothing.
use Prim.Native.Nat.{ℕ, zero, suc, ◌<◌, ◌≤◌}
use native.Mathlib.Decide.{dec_lt}
use native.Mathlib.Omega.{arith}
use mathlib.Core.List.{List, [], ◌∷◌, ◌++◌}
use lib.ListN.{length, get_or, get_or-eq_default}
use borrow.Author.Tests.{ne_eqb, eq-eqb, eqb-true, eqb-false}
use Rattle.relation.specs.Bit.{bit}
use Rattle.relation.proofs.BitLaws.{bit-off}
use Rattle.relation.specs.Sets.{member}
use Rattle.model.specs.Trees.{Tree, leaf, node}
use Rattle.model.specs.Counting.{Over}
use Rattle.model.specs.declared.Signature.{Signature}
use Rattle.algorithms.proofs.Alphabets.{of-numbered, to-numbered}
use Rattle.nodes.specs.Preorder.{preorder, alphabet, Shaped, Below, Writes}

below-join : (m : ℕ) (s t : List ℕ) → Below m s → Below m t → Below m (s ++ t)
unfolding Below
below-join m [] t h k = k
below-join m (σ ∷ s) t h k = (h.0, below-join m s t h.1 k)

below_split : (m : ℕ) (s t : List ℕ) → Below m (s ++ t) → Below m s × Below m t
unfolding Below
below_split m [] t h = (tt, h)
below_split m (σ ∷ s) t h = let later = below_split m s t h.1 in ((h.0, later.0), later.1)

pub shaped-over : (sg : Signature) (t : Tree) → Over (alphabet sg) t → Shaped sg.branches t × Below sg.symbols (preorder t)
unfolding Shaped Below preorder member
shaped-over sg (leaf σ) h =
    let l = of-numbered 0 sg.branches 0 sg.symbols σ h in
    (ne_eqb (bit sg.branches σ) 1 (λ e. omega (arith, l.2)), (omega (arith, l.1), tt))
shaped-over sg (node σ l r) h =
    let n = of-numbered 1 sg.branches 0 sg.symbols σ h.0 in
    let left = shaped-over sg l h.1 in
    let right = shaped-over sg r h.2 in
    ((eq-eqb _ _ n.2, left.0, right.0), (omega (arith, n.1), below-join sg.symbols (preorder l) (preorder r) left.1 right.1))

pub over-shaped : (sg : Signature) (t : Tree) → Shaped sg.branches t → Below sg.symbols (preorder t) → Over (alphabet sg) t
unfolding Shaped Below preorder member
over-shaped sg (leaf σ) h k =
    to-numbered 0 sg.branches 0 sg.symbols σ (omega arith) (omega (arith, k.0))
    (bit-off sg.branches σ (eqb-false (bit sg.branches σ) 1 h))
over-shaped sg (node σ l r) h k =
    let parts = below_split sg.symbols (preorder l) (preorder r) k.1 in (
      to-numbered 1 sg.branches 0 sg.symbols σ (omega arith) (omega (arith, k.0)) (eqb-true (bit sg.branches σ) 1 h.0),
      over-shaped sg l h.1 parts.0,
      over-shaped sg r h.2 parts.1,
    )

-- each symbol of a list whose symbols are below their count
pub below_at : (m : ℕ) (s : List ℕ) → Below m s → (i : ℕ) → i < length s → get_or s i 0 < m
unfolding Below
below_at m [] h i l = absurd (omega arith)
below_at m (σ ∷ s) h zero l = h.0
below_at m (σ ∷ s) h (suc i) l = below_at m s h.1 i (omega arith)

-- where the count is at most 32 it is below 32, and so is what stands past the end
below-32 : (m : ℕ) (s : List ℕ) → m ≤ 32 → Below m s → (i : ℕ) → get_or s i 0 < 32
below-32 m s l h i = by (dec_lt i (length s))
  where
    by : Dec (i < length s) → get_or s i 0 < 32
    by (yes k) = omega (arith, below_at m s h i k)
    by (no k) = rw (get_or-eq_default s 0 {n = i} (omega arith)) (omega arith)

pub written_below : (sg : Signature) (s : List ℕ) (t : Tree) → sg.symbols ≤ 32 → Writes sg s t → (i : ℕ) → get_or s i 0 < 32
written_below sg s t l w = below-32 sg.symbols s l (rw w.text (shaped-over sg t w.over).1)
