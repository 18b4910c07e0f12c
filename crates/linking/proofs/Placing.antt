-- The links inside a tree: kept where a table changes elsewhere, of a leaf, of a branch over two trees, and of a whole list.
-- Assumes nothing.
use Prim.Native.Nat.{ℕ, zero, suc, ◌+◌, ◌-◌, ◌<◌, ◌≤◌}
use native.Mathlib.Nat.{add-zero}
use native.Mathlib.Decide.{dec_lt}
use native.Mathlib.Omega.{arith}
use mathlib.Core.Path.{◌≡◌, refl, sym, ap, ◌∙◌}
use mathlib.Core.List.{List}
use lib.ListN.{get_or}
use Rattle.model.specs.Trees.{Tree, leaf, node, size}
use Rattle.links.specs.Links.{parents_from, rights_from}
use Rattle.links.proofs.Storing.{parents-length, rights-length}
use Rattle.links.proofs.Linking.{left-part, right-part, head-parent, head-right}
use Rattle.linking.specs.Placed.{LinkedFrom}

-- but for the root's, a tree's parents do not depend on what it is part of
parents-any : (x y at : ℕ) (t : Tree) (i : ℕ) → get_or (parents_from x at t) (suc i) 0 ≡ get_or (parents_from y at t) (suc i) 0
unfolding parents_from
parents-any x y at (leaf σ) i = refl
parents-any x y at (node σ l r) i = refl

pub linked-kept : (P R P' R' : List ℕ) (at : ℕ) (t : Tree) → ((i : ℕ) → at < i → get_or P' i 0 ≡ get_or P i 0) → ((i : ℕ) → at ≤ i → get_or R' i 0 ≡ get_or R i 0)
    → LinkedFrom P R at t → LinkedFrom P' R' at t
linked-kept P R P' R' at t p r h =
    record {
      parents_are = λ i some l. p (at + i) (omega arith) ∙ h.parents_are i some l;
      rights_are = λ i l. r (at + i) (omega arith) ∙ h.rights_are i l;
    }

pub linked-leaf : (P R : List ℕ) (at σ : ℕ) → get_or R at 0 ≡ 0 → LinkedFrom P R at (leaf σ)
unfolding rights_from
linked-leaf P R at σ e =
    record {
      parents_are = λ i some l. absurd (omega arith);
      rights_are = λ i l. here i l;
    }
  where
    here : (i : ℕ) → i < 1 → get_or R (at + i) 0 ≡ get_or (rights_from at (leaf σ)) i 0
    here zero l = ap (λ (j : ℕ). get_or R j 0) (add-zero at) ∙ e
    here (suc i) l = absurd (omega arith)

-- a branch over two trees that stand after it, of which it is the parent
module _ (P R P' R' : List ℕ) (at σ : ℕ) (l r : Tree) (left : LinkedFrom P R (at + 1) l) (right : LinkedFrom P R (at + 1 + size l) r)
    (parent-l : get_or P' (at + 1) 0 ≡ at) (parent-r : get_or P' (at + 1 + size l) 0 ≡ at)
    (parents-kept : (i : ℕ) → at + 1 < i → (i ≡ at + 1 + size l → ⊥) → get_or P' i 0 ≡ get_or P i 0) (right_is : get_or R' at 0 ≡ at + 1 + size l)
    (rights-kept : (i : ℕ) → at < i → get_or R' i 0 ≡ get_or R i 0) where
  left-parents : (k : ℕ) → k < size l → get_or P' (at + 1 + k) 0 ≡ get_or (parents_from at (at + 1) l) k 0
  left-parents zero h = ap (λ (j : ℕ). get_or P' j 0) (add-zero (at + 1)) ∙ parent-l ∙ sym (head-parent at (at + 1) l)
  left-parents (suc k) h =
      parents-kept (at + 1 + suc k) (omega arith) (λ e. omega arith) ∙ left.parents_are (suc k) (omega arith) h ∙ parents-any 0 at (at + 1) l k

  right-parents : (k : ℕ) → k < size r → get_or P' (at + 1 + size l + k) 0 ≡ get_or (parents_from at (at + 1 + size l) r) k 0
  right-parents zero h = ap (λ (j : ℕ). get_or P' j 0) (add-zero (at + 1 + size l)) ∙ parent-r ∙ sym (head-parent at (at + 1 + size l) r)
  right-parents (suc k) h =
      parents-kept (at + 1 + size l + suc k) (omega arith) (λ e. omega arith) ∙ right.parents_are (suc k) (omega arith) h
      ∙ parents-any 0 at (at + 1 + size l) r k

  parents-all : (k : ℕ) → k < size l + size r → Dec (k < size l) → get_or P' (at + suc k) 0 ≡ get_or (parents_from 0 at (node σ l r)) (suc k) 0
  unfolding parents_from
  parents-all k h (yes f) =
      let e : at + suc k ≡ at + 1 + k = omega arith in
      let long = parents-length at (at + 1) l in
      ap (λ (j : ℕ). get_or P' j 0) e ∙ left-parents k f
      ∙ sym (left-part 0 0 (parents_from at (at + 1) l) (parents_from at (at + 1 + size l) r) (suc k) k refl (omega arith))
  parents-all k h (no f) =
      let e : at + suc k ≡ at + 1 + size l + (k - size l) = omega arith in
      let long = parents-length at (at + 1) l in
      ap (λ (j : ℕ). get_or P' j 0) e ∙ right-parents (k - size l) (omega arith)
      ∙ sym (right-part 0 0 (parents_from at (at + 1) l) (parents_from at (at + 1 + size l) r) (suc k) (k - size l) (omega arith))

  rights-all : (k : ℕ) → k < size l + size r → Dec (k < size l) → get_or R' (at + suc k) 0 ≡ get_or (rights_from at (node σ l r)) (suc k) 0
  unfolding rights_from
  rights-all k h (yes f) =
      let e : at + suc k ≡ at + 1 + k = omega arith in
      let long = rights-length (at + 1) l in
      ap (λ (j : ℕ). get_or R' j 0) e ∙ rights-kept (at + 1 + k) (omega arith) ∙ left.rights_are k f
      ∙ sym (left-part 0 (at + 1 + size l) (rights_from (at + 1) l) (rights_from (at + 1 + size l) r) (suc k) k refl (omega arith))
  rights-all k h (no f) =
      let e : at + suc k ≡ at + 1 + size l + (k - size l) = omega arith in
      let long = rights-length (at + 1) l in
      ap (λ (j : ℕ). get_or R' j 0) e ∙ rights-kept (at + 1 + size l + (k - size l)) (omega arith) ∙ right.rights_are (k - size l) (omega arith)
      ∙ sym (right-part 0 (at + 1 + size l) (rights_from (at + 1) l) (rights_from (at + 1 + size l) r) (suc k) (k - size l) (omega arith))

  pub linked-node : LinkedFrom P' R' at (node σ l r)
  linked-node = record { parents_are = parents; rights_are = rights }
    where
      parents : (i : ℕ) → 0 < i → i < size (node σ l r) → get_or P' (at + i) 0 ≡ get_or (parents_from 0 at (node σ l r)) i 0
      parents zero some h = absurd (omega arith)
      parents (suc k) some h = parents-all k (omega arith) (dec_lt k (size l))

      rights : (i : ℕ) → i < size (node σ l r) → get_or R' (at + i) 0 ≡ get_or (rights_from at (node σ l r)) i 0
      rights zero h = ap (λ (j : ℕ). get_or R' j 0) (add-zero at) ∙ right_is ∙ sym (head-right at σ l r)
      rights (suc k) h = rights-all k (omega arith) (dec_lt k (size l))
