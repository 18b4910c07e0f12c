-- After the paper's automaton 𝒳 (section 1): from nodes 3 it goes down left in state 0, and comes back in state 1 from a leaf 0. (The paper
-- has more branch symbols, and leaves the place of a right child out where this has every place.)
use mathlib.Core.Path.{◌≡◌, refl}
use Prim.Native.Nat.{ℕ}
use Rattle.model.specs.Places.{Left, Place, Root, Child, Move, Stay, Up, Down}
use Rattle.model.specs.Trees.{leaf, node}
use Rattle.model.specs.Runs.{top, at_left, Chain, done, ◌then◌, stays, climbs, descends, Accepts, PartOverloop, Here, Simple, loop_here, loop_down}
use Rattle.model.specs.Runs.{Deterministic}
use Rattle.model.proofs.Loops.{loop-leaf, loop-node}

pub data 𝒳 : ℕ → ℕ → Place → Move → ℕ → Type 0 where
  found : {τ : Place} → 𝒳 0 0 τ Stay 1
  back : {σ : ℕ} → 𝒳 σ 1 (Child Left) Up 1
  seek : {τ : Place} → 𝒳 3 0 τ (Down Left) 0

pub data Is (n : ℕ) : ℕ → Type 0 where
  it : Is n n

-- Accepted: a node with symbol 3 over the leaves 0 and 1. Not accepted: the same over the leaves 1 and 0.
pub accepted : Accepts 𝒳 (Is 0) (Is 1) (node 3 (leaf 0) (leaf 1))
accepted = (0, 1, it, it, descends top seek then stays (at_left top) found then climbs (at_left top) back then done)

no-overloop : {m q : ℕ} → Chain (Here 𝒳 (Child Left) 1) 0 m → 𝒳 1 m (Child Left) Up q → ⊥
no-overloop done u = no-transition u
  where
    no-transition : {q : ℕ} → 𝒳 1 0 (Child Left) Up q → ⊥
    no-transition = elim [ ]
no-overloop (d then c) u = no-transition d
  where
    no-transition : {q : ℕ} → 𝒳 1 0 (Child Left) Stay q → ⊥
    no-transition = elim [ ]

no_loop : {q : ℕ} → Simple 𝒳 Root 3 (PartOverloop 𝒳 (leaf 1) (leaf 0)) 0 q → ⊥
no_loop (loop_here x) = elim x [ ]
no_loop (loop_down s seek (m, c, u)) = no-overloop ((loop-leaf 𝒳).0 c) u

no-chain : Chain (Simple 𝒳 Root 3 (PartOverloop 𝒳 (leaf 1) (leaf 0))) 0 1 → ⊥
no-chain (x then c) = no_loop x

pub not-accepted : Accepts 𝒳 (Is 0) (Is 1) (node 3 (leaf 1) (leaf 0)) → ⊥
not-accepted (i, f, it, it, c) = no-chain ((loop-node 𝒳).0 c)

pub deterministic : Deterministic 𝒳
deterministic = record { one_transition = one }
  where
    one : {σ p : ℕ} {τ : Place} {μ μ' : Move} {q q' : ℕ} → 𝒳 σ p τ μ q → 𝒳 σ p τ μ' q' → (μ ≡ μ') × (q ≡ q')
    one found found = (refl, refl)
    one back back = (refl, refl)
    one seek seek = (refl, refl)
