-- Laws of the tables of the symbols of a set, joined in rising order: one symbol more at the end. On one table, and on the two sides at once.
-- Assumes nothing.
use Prim.Native.Nat.{ℕ, ◌+◌}
use mathlib.Core.Path.{◌≡◌, refl, sym, ap, ap₂, ◌∙◌}
use mathlib.Core.Logic.{inl, ⊎_elim}
use mathlib.Core.Bool.{Bool, true, false}
use mathlib.Core.List.{List, [], ◌∷◌, ◌++◌, append-nil}
use native.Mathlib.Nat.{zero-add}
use native.Mathlib.Numerals.{add-one}
use lib.Dec.{eqb}
use lib.ListN.{length, length-map}
use Rattle.relation.specs.Bit.{bit}
use Rattle.relation.proofs.BitLaws.{bit-off}
use Rattle.relation.specs.Rows.{no_pairs, joined, image_of}
use Rattle.relation.proofs.Pairs.{ext, has-none, has-joined, length-joined}
use Rattle.relation.proofs.ChainLaws.{length-closed}
use Rattle.relation.proofs.Algebra.{joined-comm, joined-assoc}
use Rattle.relation.specs.Sets.{member, member_has}
use Rattle.refusal.proofs.Passed.{clash}
use Rattle.model.specs.declared.Side.{Side}
use Rattle.model.specs.declared.Side.TheVariants.{Left, Right}
use Rattle.model.specs.declared.Place.{Place}
use Rattle.model.specs.declared.Place.TheVariants.{Root}
use Rattle.model.specs.Counting.{Alphabet}
use Rattle.algorithms.specs.Automaton.{Automaton, cons_if, numbered, ranked, alphabet_of}
use Rattle.algorithms.specs.Overloops.{moves, leaf_loops, node_loops, up_closure, leaf_overloops, node_overloops}
use Rattle.algorithms.specs.Saturate.{Parts, parts, algebra_of}
use Rattle.algorithms.specs.Approximate.{union, leaf_side, formed_side, formed, root_side}
use Rattle.automaton.specs.declared.Header.{Header}
use Rattle.overloops.specs.Ready.{Headed}
use Rattle.overloops.proofs.Laws.{headed-symbols}
use Rattle.classes.proofs.Symbols.{numbered-snoc}

-- ---- 24 rows

-- A table has 24 rows.
abbrev pub Full : List ℕ → Type 0
Full x = length x ≡ 24

full-joined : (x y : List ℕ) → Full x → Full y → Full (joined x y)
full-joined x y u v = length-joined x y (u ∙ sym v) ∙ u

joined-none : (x : List ℕ) → Full x → joined x no_pairs ≡ x
joined-none x u =
    ext (joined x no_pairs) x (length-joined x no_pairs u)
    (λ p q. (λ h. ⊎_elim (λ a. a) (λ n. absurd (has-none p q n)) ((has-joined x no_pairs p q).0 h), λ h. (has-joined x no_pairs p q).1 (inl h)))

module _ (A : Automaton) (τ : Place) (σ : ℕ) where
  full-leaf_loops : Full (leaf_loops A τ σ)
  unfolding leaf_loops moves
  full-leaf_loops = length-closed A.states _

  full-node_loops : (L R : List ℕ) → Full (node_loops A τ σ L R)
  unfolding node_loops moves
  full-node_loops L R = length-closed A.states _

  full-up_closure : (x : List ℕ) → Full x → Full (up_closure A τ σ x)
  unfolding up_closure
  full-up_closure x u = length-map x (image_of (moves A σ τ _)) ∙ u

  full-leaf_overloops : Full (leaf_overloops A τ σ)
  unfolding leaf_overloops
  full-leaf_overloops = full-up_closure (leaf_loops A τ σ) full-leaf_loops

  full-node_overloops : (L R : List ℕ) → Full (node_overloops A τ σ L R)
  unfolding node_overloops
  full-node_overloops L R = full-up_closure (node_loops A τ σ L R) (full-node_loops L R)

pub record FullParts (x : Parts) : Type 0 where
  pub left : Full x.left
  pub right : Full x.right

pub full-leaf_class : (A : Automaton) (σ : ℕ) → FullParts ((algebra_of A).leaf_class σ)
full-leaf_class A σ = record { left = full-leaf_overloops A _ σ; right = full-leaf_overloops A _ σ }

pub full-node_class : (A : Automaton) (x y : Parts) (σ : ℕ) → FullParts ((algebra_of A).node_class σ x y)
full-node_class A x y σ = record { left = full-node_overloops A _ σ x.left y.right; right = full-node_overloops A _ σ x.left y.right }

-- ---- one symbol more

-- The bit of a number that is in a set, or is not.
abbrev pub bit_of : Bool → ℕ
bit_of true = 1
bit_of false = 0

bit-of : (set k : ℕ) (t : Bool) → member set k ≡ t → bit set k ≡ bit_of t
bit-of set k true e = (member_has set k).0 e
bit-of set k false e = bit-off set k (λ h. let m = (member_has set k).1 h in clash (cc))

-- The table x, with y where the test is true.
abbrev pub join_if : Bool → (x y : List ℕ) → List ℕ
join_if true x y = joined x y
join_if false x y = x

module _ (f : ℕ → List ℕ) (full : (σ : ℕ) → Full (f σ)) where
  full-union : (σs : List ℕ) → Full (union f σs)
  unfolding union
  full-union [] = refl
  full-union (σ ∷ σs) = full-joined (f σ) (union f σs) (full σ) (full-union σs)

  union-snoc : (σs : List ℕ) (k : ℕ) → union f (σs ++ k ∷ []) ≡ joined (union f σs) (f k)
  unfolding union
  union-snoc [] k = joined-comm (f k) no_pairs (full k)
  union-snoc (σ ∷ σs) k =
      ap (joined (f σ)) (union-snoc σs k)
      ∙ sym (joined-assoc (f σ) (union f σs) (f k) (full σ ∙ sym (full-union σs)) (full-union σs ∙ sym (full k)))

  union-if : (t : Bool) (σs : List ℕ) (k : ℕ) → union f (σs ++ cons_if t k []) ≡ join_if t (union f σs) (f k)
  union-if true σs k = union-snoc σs k
  union-if false σs k = ap (union f) (append-nil σs)

  -- The union over the numbers below k whose bit in the set is b, and what k adds, t telling whether it is in the set.
  union_more : (b set k : ℕ) (t : Bool) → member set k ≡ t → union f (numbered b set 0 (k + 1)) ≡ join_if (eqb (bit_of t) b) (union f (numbered b set 0 k)) (f k)
  union_more b set k t e = rw (add-one, numbered-snoc b set 0 k, zero-add, bit-of set k t e) (union-if (eqb (bit_of t) b) (numbered b set 0 k) k)

  -- The same after a table that comes first.
  after_more : (x : List ℕ) → Full x → (b set k : ℕ) (t : Bool) → member set k ≡ t
      → join_if (eqb (bit_of t) b) (joined x (union f (numbered b set 0 k))) (f k) ≡ joined x (union f (numbered b set 0 (k + 1)))
  after_more x u b set k t e = rw (union_more b set k t e) (by (eqb (bit_of t) b))
    where
      by : (t : Bool) → join_if t (joined x (union f (numbered b set 0 k))) (f k) ≡ joined x (join_if t (union f (numbered b set 0 k)) (f k))
      by true = joined-assoc x (union f (numbered b set 0 k)) (f k) (u ∙ sym (full-union (numbered b set 0 k))) (full-union (numbered b set 0 k) ∙ sym (full k))
      by false = refl

-- The leaves' tables and then the branches', below k, and what k adds to them.
module _ (f g : ℕ → List ℕ) (full-f : (σ : ℕ) → Full (f σ)) (full-g : (σ : ℕ) → Full (g σ)) (set k : ℕ) where
  abbrev leaves : ℕ → List ℕ
  leaves n = union f (numbered 0 set 0 n)

  abbrev branches : ℕ → List ℕ
  branches n = union g (numbered 1 set 0 n)

  same_length : (n m : ℕ) → length (leaves n) ≡ length (branches m)
  same_length n m = full-union f full-f (numbered 0 set 0 n) ∙ sym (full-union g full-g (numbered 1 set 0 m))

  branch-more : member set k ≡ true → joined (joined (leaves k) (branches k)) (g k) ≡ joined (leaves (k + 1)) (branches (k + 1))
  branch-more e =
      after_more g full-g (leaves k) (full-union f full-f (numbered 0 set 0 k)) 1 set k true e
      ∙ ap (λ (x : List ℕ). joined x (branches (k + 1))) (sym (union_more f full-f 0 set k true e))

  leaf-more : member set k ≡ false → joined (joined (leaves k) (branches k)) (f k) ≡ joined (leaves (k + 1)) (branches (k + 1))
  leaf-more e =
      ap (λ (x : List ℕ). joined x (f k)) (joined-comm (leaves k) (branches k) (same_length k k))
      ∙ after_more f full-f (branches k) (full-union g full-g (numbered 1 set 0 k)) 0 set k false e
      ∙ ap (λ (x : List ℕ). joined x (leaves (k + 1))) (sym (union_more g full-g 1 set k false e))
      ∙ sym (joined-comm (leaves (k + 1)) (branches (k + 1)) (same_length (k + 1) (k + 1)))

-- ---- on both sides

abbrev pub join_parts_if : Bool → (x y : Parts) → Parts
join_parts_if t x y = parts (join_if t x.left y.left) (join_if t x.right y.right)

abbrev pub nothing : Parts
nothing = parts no_pairs no_pairs

pub full-nothing : FullParts nothing
full-nothing = record { left = refl; right = refl }

-- the sets x, with those of some symbols
abbrev pub gathered : Parts → (ℕ → Parts) → List ℕ → Parts
gathered x F σs = parts (joined x.left (union (λ σ. (F σ).left) σs)) (joined x.right (union (λ σ. (F σ).right) σs))

module _ (x : Parts) (u : FullParts x) where
  pub gathered_none : (F : ℕ → Parts) → gathered x F [] ≡ x
  unfolding union
  gathered_none F = ap₂ parts (joined-none x.left u.left) (joined-none x.right u.right)

  pub gathered-turn : (F : ℕ → Parts) → ((σ : ℕ) → FullParts (F σ)) → (b set k : ℕ) (t : Bool) (s y s' : Parts) → member set k ≡ t
      → s ≡ gathered x F (numbered b set 0 k) → y ≡ F k → s' ≡ join_parts_if (eqb (bit_of t) b) s y → s' ≡ gathered x F (numbered b set 0 (k + 1))
  gathered-turn F full b set k t s y s' e p q r =
      r ∙ ap₂ (join_parts_if (eqb (bit_of t) b)) p q
      ∙ ap₂ parts (after_more (λ σ. (F σ).left) (λ σ. (full σ).left) x.left u.left b set k t e)
      (after_more (λ σ. (F σ).right) (λ σ. (full σ).right) x.right u.right b set k t e)

-- ---- the symbols of an automaton

-- the loops at the root, over the symbols below k
abbrev pub at_root : Automaton → Parts → (set k : ℕ) → List ℕ
at_root A x set k =
    joined (union (leaf_loops A Root) (numbered 0 set 0 k)) (union (λ σ. node_loops A Root σ x.left x.right) (numbered 1 set 0 k))

module _ (A : Automaton) (x : Parts) (set k : ℕ) where
  abbrev g : ℕ → List ℕ
  g σ = node_loops A Root σ x.left x.right

  pub root-branch : member set k ≡ true → joined (at_root A x set k) (g k) ≡ at_root A x set (k + 1)
  root-branch = branch-more (leaf_loops A Root) g (full-leaf_loops A Root) (λ σ. full-node_loops A Root σ x.left x.right) set k

  pub root-leaf : member set k ≡ false → joined (at_root A x set k) (leaf_loops A Root k) ≡ at_root A x set (k + 1)
  root-leaf = leaf-more (leaf_loops A Root) g (full-leaf_loops A Root) (λ σ. full-node_loops A Root σ x.left x.right) set k

module _ (A : Automaton) (h : Header) (t : List ℕ) (k : Headed A h t) where
  symbols-are : alphabet_of A ≡ ranked h.symbols h.branches
  symbols-are = headed-symbols A h t k

  pub leaves-gathered : gathered nothing (algebra_of A).leaf_class (numbered 0 h.branches 0 h.symbols) ≡ parts (leaf_side A Left) (leaf_side A Right)
  unfolding leaf_side
  leaves-gathered = ap₂ parts (all Left) (all Right)
    where
      all : (s : Side) → joined no_pairs (union (leaf_overloops A (Place.Child s)) (numbered 0 h.branches 0 h.symbols))
          ≡ union (leaf_overloops A (Place.Child s)) (alphabet_of A).leaves
      all s =
          let f = leaf_overloops A (Place.Child s) in
          let σs = numbered 0 h.branches 0 h.symbols in
          let full = full-union f (full-leaf_overloops A (Place.Child s)) σs in
          joined-comm no_pairs (union f σs) (sym full) ∙ joined-none (union f σs) full ∙ ap (λ (S : Alphabet). union f S.leaves) (sym symbols-are)

  pub branches-gathered : (x : Parts) → gathered x (λ σ. (algebra_of A).node_class σ x x) (numbered 1 h.branches 0 h.symbols) ≡ formed A x
  unfolding formed formed_side
  branches-gathered x = ap (λ (S : Alphabet). gathered x (λ σ. (algebra_of A).node_class σ x x) S.branches) (sym symbols-are)

  pub root-gathered : (x : Parts) → at_root A x h.branches h.symbols ≡ root_side A x
  unfolding root_side
  root-gathered x =
      ap (λ (S : Alphabet). joined (union (leaf_loops A Root) S.leaves) (union (λ σ. node_loops A Root σ x.left x.right) S.branches)) (sym symbols-are)
