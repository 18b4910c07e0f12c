-- The links of a tree are the model's: of each node its parent's number, its place, and of a branch its right part's number.
-- Assumes nothing.
use mathlib.Core.Path.{◌≡◌, refl, sym, ap, ◌∙◌}
use mathlib.Core.List.{List, [], ◌∷◌, ◌++◌, append-nil}
use Prim.Native.Nat.{ℕ, suc, ◌+◌, ◌<◌}
use native.Mathlib.Nat.{add-zero}
use native.Mathlib.Omega.{arith}
use borrow.Author.Tests.{eq-eqb, ne_eqb}
use lib.ListN.{length, get_or, length-append, get_or-append}
use lib.Seq.{get_or-append-add}
use Rattle.model.specs.declared.Side.TheVariants.{Left, Right}
use Rattle.model.specs.declared.Place.TheVariants.{Root}
use Rattle.model.specs.Trees.{Tree, leaf, node, symbol, size}
use Rattle.nodes.specs.Preorder.{preorder}
use Rattle.nodes.proofs.Standing.{size-preorder}
use Rattle.model.specs.Runs.{Position, place}
use Rattle.links.specs.Links.{parents_from, rights_from, parents_of, rights_of, place_in}
use Rattle.links.specs.Linked.{ParentOf, Linked}
use Rattle.links.specs.Numbers.{Numbered, first, to_left, to_right}
use Rattle.links.proofs.Numbering.{some-nodes, numbered_within, number-unique}
use Rattle.links.proofs.Storing.{parents-length, rights-length}

-- the part of a list that its left and its right part have
module _ {A : Type 0} (d x : A) (ys zs : List A) where
  pub left-part : (i k : ℕ) → i ≡ suc k → k < length ys → get_or (x ∷ (ys ++ zs)) i d ≡ get_or ys k d
  left-part i k e h = ap (λ (n : ℕ). get_or (x ∷ (ys ++ zs)) n d) e ∙ get_or-append ys zs d k h

  pub right-part : (i k : ℕ) → i ≡ suc (length ys + k) → get_or (x ∷ (ys ++ zs)) i d ≡ get_or zs k d
  right-part i k e = ap (λ (n : ℕ). get_or (x ∷ (ys ++ zs)) n d) e ∙ get_or-append-add ys zs k d

-- the positions of the nodes, in preorder
positions_from : Position → Tree → List Position
positions_from α (leaf σ) = α ∷ []
positions_from α (node σ l r) = α ∷ (positions_from (Left ∷ α) l ++ positions_from (Right ∷ α) r)

positions-length : (α : Position) (t : Tree) → length (positions_from α t) ≡ size t
unfolding positions_from
positions-length α (leaf σ) = refl
positions-length α (node σ l r) =
    ap suc (length-append (positions_from (Left ∷ α) l) (positions_from (Right ∷ α) r)
    ∙ cc (positions-length (Left ∷ α) l, positions-length (Right ∷ α) r))

-- the nodes of a subtree u, whose root is node j below node `up`, have the links of u
record Part (t : Tree) (j : ℕ) (α : Position) (u : Tree) : Type 0 where
  up : ℕ
  parent : ParentOf t α up
  side : (P : List ℕ) → get_or P j 0 ≡ up → place_in P j ≡ place Root α
  parents : (k : ℕ) → k < size u → get_or (parents_of t) (j + k) 0 ≡ get_or (parents_from up j u) k 0
  rights : (k : ℕ) → k < size u → get_or (rights_of t) (j + k) 0 ≡ get_or (rights_from j u) k 0
  symbols : (k : ℕ) → k < size u → get_or (preorder t) (j + k) 0 ≡ get_or (preorder u) k 0
  positions : (k : ℕ) → k < size u → get_or (positions_from [] t) (j + k) [] ≡ get_or (positions_from α u) k []

module _ {A : Type 0} (f : ℕ → A) (j : ℕ) where
  on-left : (k : ℕ) → f (j + 1 + k) ≡ f (j + suc k)
  on-left k = ap f (let e : j + 1 + k ≡ j + suc k = omega arith in e)

  on-right : (n k : ℕ) → f (j + 1 + n + k) ≡ f (j + suc (n + k))
  on-right n k = ap f (let e : j + 1 + n + k ≡ j + suc (n + k) = omega arith in e)

part : {t u : Tree} {j : ℕ} {α : Position} → Numbered t j α u → Part t j α u
unfolding parents_from rights_from positions_from place_in preorder
part {t} first =
    record {
      up = 0;
      parent = refl;
      side = λ P e. refl;
      parents = λ k h. ap (λ (n : ℕ). get_or (parents_of t) n 0) (let e : 0 + k ≡ k = omega arith in e);
      rights = λ k h. ap (λ (n : ℕ). get_or (rights_of t) n 0) (let e : 0 + k ≡ k = omega arith in e);
      symbols = λ k h. ap (λ (n : ℕ). get_or (preorder t) n 0) (let e : 0 + k ≡ k = omega arith in e);
      positions = λ k h. ap (λ (n : ℕ). get_or (positions_from [] t) n []) (let e : 0 + k ≡ k = omega arith in e);
    }
part {t} (to_left {i = j} {α = α} {σ = σ} {l = l} {r = r} n) =
    let d = part n in
    let p = parents-length j (j + 1) l in
    let q = rights-length (j + 1) l in
    let s = positions-length (Left ∷ α) l in
    let o = size-preorder l in
    record {
      up = j;
      parent = (_, n);
      side = λ P e. rw (e, ne_eqb (j + 1) 0 (λ z. omega arith), eq-eqb (j + 1) (j + 1) refl);
      parents = λ k h. on-left (λ (i : ℕ). get_or (parents_of t) i 0) j k ∙ d.parents (suc k) (omega arith)
          ∙ left-part 0 d.up (parents_from j (j + 1) l) (parents_from j (j + 1 + size l) r) (suc k) k refl (omega arith);
      rights = λ k h. on-left (λ (i : ℕ). get_or (rights_of t) i 0) j k ∙ d.rights (suc k) (omega arith)
          ∙ left-part 0 (j + 1 + size l) (rights_from (j + 1) l) (rights_from (j + 1 + size l) r) (suc k) k refl (omega arith);
      symbols = λ k h. on-left (λ (i : ℕ). get_or (preorder t) i 0) j k ∙ d.symbols (suc k) (omega arith)
          ∙ left-part 0 σ (preorder l) (preorder r) (suc k) k refl (omega arith);
      positions = λ k h. on-left (λ (i : ℕ). get_or (positions_from [] t) i []) j k ∙ d.positions (suc k) (omega arith)
          ∙ left-part [] α (positions_from (Left ∷ α) l) (positions_from (Right ∷ α) r) (suc k) k refl (omega arith);
    }
part {t} (to_right {i = j} {α = α} {σ = σ} {l = l} {r = r} n) =
    let d = part n in
    let p = parents-length j (j + 1) l in
    let q = rights-length (j + 1) l in
    let s = positions-length (Left ∷ α) l in
    let o = size-preorder l in
    record {
      up = j;
      parent = (_, n);
      side = λ P e. rw (e, ne_eqb (j + 1 + size l) 0 (λ z. omega arith), ne_eqb (j + 1) (j + 1 + size l) (λ z. omega (arith, some-nodes l)));
      parents = λ k h. on-right (λ (i : ℕ). get_or (parents_of t) i 0) j (size l) k ∙ d.parents (suc (size l + k)) (omega arith)
          ∙ right-part 0 d.up (parents_from j (j + 1) l) (parents_from j (j + 1 + size l) r) (suc (size l + k)) k (omega arith);
      rights = λ k h. on-right (λ (i : ℕ). get_or (rights_of t) i 0) j (size l) k ∙ d.rights (suc (size l + k)) (omega arith)
          ∙ right-part 0 (j + 1 + size l) (rights_from (j + 1) l) (rights_from (j + 1 + size l) r) (suc (size l + k)) k (omega arith);
      symbols = λ k h. on-right (λ (i : ℕ). get_or (preorder t) i 0) j (size l) k ∙ d.symbols (suc (size l + k)) (omega arith)
          ∙ right-part 0 σ (preorder l) (preorder r) (suc (size l + k)) k (omega arith);
      positions = λ k h. on-right (λ (i : ℕ). get_or (positions_from [] t) i []) j (size l) k ∙ d.positions (suc (size l + k)) (omega arith)
          ∙ right-part [] α (positions_from (Left ∷ α) l) (positions_from (Right ∷ α) r) (suc (size l + k)) k (omega arith);
    }

-- ---- what stands at a node itself

pub head-parent : (up j : ℕ) (u : Tree) → get_or (parents_from up j u) 0 0 ≡ up
unfolding parents_from
head-parent up j (leaf σ) = refl
head-parent up j (node σ l r) = refl

head-symbol : (u : Tree) → get_or (preorder u) 0 0 ≡ symbol u
unfolding preorder
head-symbol (leaf σ) = refl
head-symbol (node σ l r) = refl

head-position : (α : Position) (u : Tree) → get_or (positions_from α u) 0 [] ≡ α
unfolding positions_from
head-position α (leaf σ) = refl
head-position α (node σ l r) = refl

head-leaf : (j σ : ℕ) → get_or (rights_from j (leaf σ)) 0 0 ≡ 0
unfolding rights_from
head-leaf j σ = refl

pub head-right : (j σ : ℕ) (l r : Tree) → get_or (rights_from j (node σ l r)) 0 0 ≡ j + 1 + size l
unfolding rights_from
head-right j σ l r = refl

module _ {t u : Tree} {j : ℕ} {α : Position} (n : Numbered t j α u) where
  parent_is : get_or (parents_of t) j 0 ≡ (part n).up
  parent_is = rw add-zero at ((part n).parents 0 (some-nodes u)) ∙ head-parent (part n).up j u

  pub symbol-is : get_or (preorder t) j 0 ≡ symbol u
  symbol-is = rw add-zero at ((part n).symbols 0 (some-nodes u)) ∙ head-symbol u

  position-is : get_or (positions_from [] t) j [] ≡ α
  position-is = rw add-zero at ((part n).positions 0 (some-nodes u)) ∙ head-position α u

  rights-here : (v : Tree) → u ≡ v → get_or (rights_of t) j 0 ≡ get_or (rights_from j v) 0 0
  rights-here v e = rw add-zero at ((part n).rights 0 (some-nodes u)) ∙ ap (λ (x : Tree). get_or (rights_from j x) 0 0) e

  right_is : (σ : ℕ) (l r : Tree) → u ≡ node σ l r → get_or (rights_of t) j 0 ≡ j + 1 + size l
  right_is σ l r e = rights-here (node σ l r) e ∙ head-right j σ l r

-- a number names one position, and one subtree
pub named-once : {t u v : Tree} {i : ℕ} {α β : Position} → Numbered t i α u → Numbered t i β v → (α ≡ β) × (u ≡ v)
named-once n m =
    let e = sym (position-is n) ∙ position-is m in
    (e, (number-unique (rw e at n) m).1)

-- tables that begin with a tree's links have those of each of its nodes
pub linked : {t u : Tree} {i : ℕ} {α : Position} (parents rights : List ℕ) → Numbered t i α u
    → Linked t (parents_of t ++ parents) (rights_of t ++ rights) i α u
linked {t} {u} {i} {α} parents rights n =
    let inside : i < size t = omega (arith, numbered_within n, some-nodes u) in
    let p : get_or (parents_of t ++ parents) i 0 ≡ (part n).up =
    get_or-append (parents_of t) parents 0 i (omega (arith, parents-length 0 0 t)) ∙ parent_is n in
    let q : get_or (rights_of t ++ rights) i 0 ≡ get_or (rights_of t) i 0 =
    get_or-append (rights_of t) rights 0 i (omega (arith, rights-length 0 t)) in
    record {
      parent = rw p (part n).parent;
      place_is = (part n).side (parents_of t ++ parents) p;
      right = λ σ l r e. let m : Numbered t i α (node σ l r) = rw e at n in rw (q, right_is n σ l r e) (to_right m);
      no_right = λ σ e. q ∙ rights-here n (leaf σ) e ∙ head-leaf i σ;
    }

-- so have the tree's own links
pub linked-own : {t u : Tree} {i : ℕ} {α : Position} → Numbered t i α u → Linked t (parents_of t) (rights_of t) i α u
linked-own {t} n = rw (append-nil (parents_of t), append-nil (rights_of t)) at (linked [] [] n)
