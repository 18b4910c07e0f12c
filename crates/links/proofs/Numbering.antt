-- Each position of a tree has one number, and each number below the size names one position.
-- Assumes nothing.
use mathlib.Core.Path.{◌≡◌, refl}
use Prim.Native.Nat.{ℕ, ◌+◌, ◌≤◌, ◌<◌}
use native.Mathlib.Decide.{ℕ_discrete, dec_lt}
use native.Mathlib.Omega.{arith}
use Rattle.model.specs.Trees.{Tree, leaf, node, size}
use Rattle.model.specs.Runs.{Position, At, top, at_left, at_right}
use Rattle.links.specs.Numbers.{Numbered, first, to_left, to_right}

pub some-nodes : (t : Tree) → 0 < size t
some-nodes (leaf σ) = omega arith
some-nodes (node σ l r) = omega arith

pub numbered-at : {t u : Tree} {i : ℕ} {α : Position} → Numbered t i α u → At t α u
numbered-at first = top
numbered-at (to_left n) = at_left (numbered-at n)
numbered-at (to_right n) = at_right (numbered-at n)

pub at-numbered : {t u : Tree} {α : Position} → At t α u → (i : ℕ) × Numbered t i α u
at-numbered top = (0, first)
at-numbered (at_left a) = let n = at-numbered a in (_, to_left n.1)
at-numbered (at_right a) = let n = at-numbered a in (_, to_right n.1)

pub number-unique : {t u v : Tree} {i j : ℕ} {α : Position} → Numbered t i α u → Numbered t j α v → (i ≡ j) × (u ≡ v)
number-unique first first = (refl, refl)
number-unique (to_left a) (to_left b) = let e = number-unique a b in (omega (arith, e.0), cc e.1)
number-unique (to_right {i = i} {l = l} a) (to_right {i = j} {l = m} b) =
    let e = number-unique a b in
    let f : l ≡ m = cc e.1 in
    (rw (e.0, f), cc e.1)

-- the nodes of a subtree are those from its own number on
pub numbered_within : {t u : Tree} {i : ℕ} {α : Position} → Numbered t i α u → i + size u ≤ size t
numbered_within first = omega arith
numbered_within (to_left n) = let h = numbered_within n in omega arith
numbered_within (to_right n) = let h = numbered_within n in omega arith

-- each number below the size is that of a node
pub number-named : {t : Tree} (u : Tree) {i : ℕ} {α : Position} → Numbered t i α u → (k : ℕ) → i ≤ k → k < i + size u
    → (β : Position) × (v : Tree) × Numbered t k β v
number-named {t} (leaf σ) {i} {α} n k h l = (α, leaf σ, rw same n)
  where
    same : k ≡ i
    same = omega arith
number-named {t} (node σ x y) {i} {α} n k h l =
    go (ℕ_discrete k i) (dec_lt k (i + 1 + size x)) (λ f g. number-named x (to_left n) k f g) (λ f g. number-named y (to_right n) k f g)
  where
    go : Dec (k ≡ i) → Dec (k < i + 1 + size x) → (i + 1 ≤ k → k < i + 1 + size x → (β : Position) × (v : Tree) × Numbered t k β v)
        → (i + 1 + size x ≤ k → k < i + 1 + size x + size y → (β : Position) × (v : Tree) × Numbered t k β v)
        → (β : Position) × (v : Tree) × Numbered t k β v
    go (yes e) d left right = (α, node σ x y, rw e n)
    go (no f) (yes g) left right = left (omega arith) g
    go (no f) (no g) left right = right (omega arith) (omega arith)

pub all_named : (t : Tree) (k : ℕ) → k < size t → (β : Position) × (v : Tree) × Numbered t k β v
all_named t k h = number-named t first k (omega arith) (omega arith)
