-- A class written, and a node computed.
-- Assumes nothing.
use Prim.Native.Nat.{ℕ, ◌+◌, ◌<◌, ◌≤◌}
use native.Mathlib.Omega.{arith}
use mathlib.Core.Path.{◌≡◌, sym, ◌∙◌}
use mathlib.Core.Logic.{inl}
use mathlib.Core.List.{List}
use lib.ListN.{length, take, drop, set}
use Rattle.model.specs.declared.Side.{Side}
use Rattle.model.specs.declared.Place.{Place}
use Rattle.algorithms.specs.Automaton.{Automaton}
use Rattle.algorithms.specs.Overloops.{node_overloops}
use Rattle.algorithms.specs.Growth.{node_growth}
use Rattle.overloops.specs.Tables.{Put}
use Rattle.overloops.proofs.Laws.{side-small, part_length, part-at, part-is}
use Rattle.class_tables.specs.Classes.{rows_place, rows_of, id_of, growth_in, Node, Same, IsClass}
use Rattle.class_tables.specs.Cache.{Right, classes, CachedIn, After}
use Rattle.determinization.proofs.Adding.{class-more, class-counted}

-- both relations of class n, one after the other
module _ (n : ℕ) (left right t t₁ t₂ : List ℕ) (size : length t ≡ 49152) (few : n < 1024) (hl : length left ≡ 24) (hr : length right ≡ 24)
    (x : Put (rows_place n Side.Left) left t t₁) (y : Put (rows_place n Side.Right) right t₁ t₂) where
  both-size : length t₂ ≡ 49152
  both-size = y.size ∙ x.size ∙ size

  put-left : rows_of t₂ n Side.Left ≡ left
  unfolding rows_of
  put-left =
      part-is t₂ (rows_place n Side.Left) (omega (arith, both-size)) left hl
      (λ p h. y.outside (rows_place n Side.Left + p) (inl (omega arith)) ∙ x.inside p h)

  put_right : rows_of t₂ n Side.Right ≡ right
  unfolding rows_of
  put_right = part-is t₂ (rows_place n Side.Right) (omega (arith, both-size)) right hr (λ p h. y.inside p h)

  -- the classes before stay
  put_same : Same n t t₂
  unfolding rows_of
  put_same i s l =
      let small = side-small s in
      let at = rows_place i s in
      let room : rows_place i s + 24 ≤ length t = omega arith in
      part-is t₂ (rows_place i s) (omega (arith, both-size)) (take 24 (drop (rows_place i s) t)) (part_length t (rows_place i s) room)
      (λ p h.
      y.outside (rows_place i s + p) (inl (omega arith)) ∙ x.outside (rows_place i s + p) (inl (omega arith)) ∙ sym (part-at t (rows_place i s) room p h))

-- one class more
pub class-added : (A : Automaton) (counts store store₁ store₂ maps cells left right : List ℕ) → CachedIn A counts store maps cells → classes counts < 1024
    → length left ≡ 24 → length right ≡ 24
    → Put (rows_place (classes counts) Side.Left) left store store₁ → Put (rows_place (classes counts) Side.Right) right store₁ store₂
    → After A counts store (set counts 0 (classes counts + 1)) store₂ maps cells
    × IsClass (classes (set counts 0 (classes counts + 1))) store₂ (classes counts) left right
class-added A counts store store₁ store₂ maps cells left right k room hl hr x y =
    let n = classes counts in
    let counted = class-counted counts k.counts_size in
    let same = put_same n left right store store₁ store₂ k.store_size room hl hr x y in (
      record {
        cached = class-more A counts (set counts 0 (n + 1)) store store₂ maps cells k room counted (both-size n left right store store₁ store₂ k.store_size room hl hr x y) same;
        same = same;
        more = omega (arith, counted.classes_are);
      },
      record {
        some = k.some;
        known = omega (arith, counted.classes_are);
        left_rows = put-left n left right store store₁ store₂ k.store_size room hl hr x y;
        right_rows = put_right n left right store store₁ store₂ k.store_size room hl hr x y;
      },
    )

-- a node as a part on a side: its relation, and its growth
abbrev PartOf : Automaton → Side → (σ : ℕ) (left right rows : List ℕ) (growth : ℕ) → Type 0
PartOf A s σ left right rows growth =
    (rows ≡ node_overloops A (Place.Child s) σ left right) × (growth ≡ node_growth A (Place.Child s) σ left right)

pub part-over : (A : Automaton) (s : Side) (σ : ℕ) {left left' right right' rows : List ℕ} {growth : ℕ} → left ≡ left' → right ≡ right'
    → PartOf A s σ left right rows growth → PartOf A s σ left' right' rows growth
part-over A s σ l r part = rw (l, r) at part

-- a word that has a class and two growths
abbrev Has : (w i left right : ℕ) → Type 0
Has w i left right = (id_of w ≡ i) × (growth_in Side.Left w ≡ left) × (growth_in Side.Right w ≡ right)

-- the word of a node, from its parts
node-is : (A : Automaton) (σ l r i w g h : ℕ) (store store' x y : List ℕ) → rows_of store' i Side.Left ≡ x → rows_of store' i Side.Right ≡ y
    → rows_of store' l Side.Left ≡ rows_of store l Side.Left → rows_of store' r Side.Right ≡ rows_of store r Side.Right → Has w i g h
    → PartOf A Side.Left σ (rows_of store l Side.Left) (rows_of store r Side.Right) x g
    → PartOf A Side.Right σ (rows_of store l Side.Left) (rows_of store r Side.Right) y h → Node A store' σ l r w
node-is A σ l r i w g h store store' x y ex ey el er has px py = record { rows = rows_are; growth = growth-is }
  where
    rows_are : (s : Side) → rows_of store' (id_of w) s ≡ node_overloops A (Place.Child s) σ (rows_of store' l Side.Left) (rows_of store' r Side.Right)
    rows_are Side.Left = rw (has.0, el, er) (ex ∙ px.0)
    rows_are Side.Right = rw (has.0, el, er) (ey ∙ py.0)

    growth-is : (s : Side) → growth_in s w ≡ node_growth A (Place.Child s) σ (rows_of store' l Side.Left) (rows_of store' r Side.Right)
    growth-is Side.Left = rw (el, er) (has.1 ∙ px.1)
    growth-is Side.Right = rw (el, er) (has.2 ∙ py.1)

pub node-computed : (A : Automaton) (σ l r i w g h : ℕ) (counts counts' store store' maps cells cells' x y : List ℕ) → l < classes counts
    → r < classes counts → After A counts store counts' store' maps cells → IsClass (classes counts') store' i x y → Has w i g h
    → PartOf A Side.Left σ (rows_of store l Side.Left) (rows_of store r Side.Right) x g
    → PartOf A Side.Right σ (rows_of store l Side.Left) (rows_of store r Side.Right) y h
    → (CachedIn A counts' store' maps cells → l < classes counts' → r < classes counts' → id_of w < classes counts' → Node A store' σ l r w
    → CachedIn A counts' store' maps cells')
    → After A counts store counts' store' maps cells' × Right A (classes counts') store' σ l r w
node-computed A σ l r i w g h counts counts' store store' maps cells cells' x y hl hr after is has px py keep =
    let more = after.more in
    let known : id_of w < classes counts' = omega (arith, is.known, has.0) in
    let node : Node A store' σ l r w =
    node-is A σ l r i w g h store store' x y is.left_rows is.right_rows (after.same l Side.Left hl) (after.same r Side.Right hr) has px py in
    (record { cached = keep after.cached (omega arith) (omega arith) known node; same = after.same; more = more }, λ some. (known, node))

-- a cache of which the cells are others that are equal
pub cells-moved : {A : Automaton} {counts store maps cells cells' : List ℕ} → cells' ≡ cells → CachedIn A counts store maps cells → CachedIn A counts store maps cells'
cells-moved e k = rw e k

-- what a call leaves, of which the maps and the cells are others that are equal
pub after-moved : {A : Automaton} {counts store counts' store' maps maps' cells cells' : List ℕ} → maps' ≡ maps → cells' ≡ cells
    → After A counts store counts' store' maps cells → After A counts store counts' store' maps' cells'
after-moved e f x = rw (e, f) x
