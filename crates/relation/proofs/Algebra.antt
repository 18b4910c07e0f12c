-- The algebra of relations: what stays within n states, and the laws of joining, composing and closing, for every n up to 24 at once. Each
-- law is shown by the pairs. Assumes nothing.
use mathlib.Core.Path.{◌≡◌, refl, sym, ◌∙◌}
use mathlib.Core.Logic.{◌⊎◌, inl, inr, ⊎_elim, ◌↔◌}
use mathlib.Core.List.{List}
use Prim.Native.Nat.{ℕ, ◌^◌, ◌≤◌, ◌<◌}
use lib.ListN.{length, get_or, length-map}
use Rattle.relation.proofs.BitLaws.{lt-of-bits}
use Rattle.relation.specs.Rows.{has, no_pairs, joined, image_of, composed, closed}
use Rattle.relation.proofs.Pairs.{ext, has-none, has-joined, has-composed, length-joined}
use Rattle.relation.specs.Chain.{Chain, stop, step, Within}
use Rattle.relation.proofs.ChainLaws.{chain-trans, has-closed, within-closed}

-- ---- what stays within n states

-- The rows of a relation within n states are numbers of n bits.
pub row_lt : (n : ℕ) (R : List ℕ) → Within n R → (p : ℕ) → get_or R p 0 < 2 ^ n
row_lt n R w p = lt-of-bits (get_or R p 0) n (λ q h. (w.inside p q h).1)

pub within_none : (n : ℕ) → Within n no_pairs
within_none n = record { rows = refl; inside = λ p q h. absurd (has-none p q h) }

pub within-joined : (n : ℕ) (A B : List ℕ) → Within n A → Within n B → Within n (joined A B)
within-joined n A B u v =
    record {
      rows = length-joined A B (u.rows ∙ sym v.rows) ∙ u.rows;
      inside = λ p q h. ⊎_elim (u.inside p q) (v.inside p q) ((has-joined A B p q).0 h);
    }

pub within-composed : (n : ℕ) (A B : List ℕ) → Within n A → Within n B → Within n (composed A B)
within-composed n A B u v =
    record {
      rows = length-map A (image_of B) ∙ u.rows;
      inside = λ p r h. let c = (has-composed A B p r).0 h in ((u.inside p c.0 c.1).0, (v.inside c.0 r c.2).1);
    }

-- Relations within n states that have the same pairs are equal.
pub same-pairs : {n : ℕ} (A B : List ℕ) → Within n A → Within n B → ((p q : ℕ) → has A p q ↔ has B p q) → A ≡ B
same-pairs A B u v h = ext A B (u.rows ∙ sym v.rows) h

-- ---- laws

-- Joining is commutative, associative and idempotent.
module _ (A B : List ℕ) (e : length A ≡ length B) where
  pub joined-comm : joined A B ≡ joined B A
  joined-comm =
      ext (joined A B) (joined B A) (length-joined A B e ∙ e ∙ sym (length-joined B A (sym e)))
      (λ p q. (λ h. (has-joined B A p q).1 (swap ((has-joined A B p q).0 h)), λ h. (has-joined A B p q).1 (swap ((has-joined B A p q).0 h))))
    where
      swap : {X Y : Type 0} → X ⊎ Y → Y ⊎ X
      swap = ⊎_elim inr inl

pub joined-assoc : (A B C : List ℕ) → length A ≡ length B → length B ≡ length C → joined (joined A B) C ≡ joined A (joined B C)
joined-assoc A B C e f =
    let ab = length-joined A B e in
    let bc = length-joined B C f in
    ext (joined (joined A B) C) (joined A (joined B C))
    (length-joined (joined A B) C (ab ∙ e ∙ f) ∙ ab ∙ sym (length-joined A (joined B C) (e ∙ sym bc)))
    (λ p q. (
      λ h.
          (has-joined A (joined B C) p q).1
          (⊎_elim
          (λ k. ⊎_elim inl (λ b. inr ((has-joined B C p q).1 (inl b))) ((has-joined A B p q).0 k))
          (λ c. inr ((has-joined B C p q).1 (inr c)))
          ((has-joined (joined A B) C p q).0 h)),
      λ h.
          (has-joined (joined A B) C p q).1
          (⊎_elim
          (λ a. inl ((has-joined A B p q).1 (inl a)))
          (λ k. ⊎_elim (λ b. inl ((has-joined A B p q).1 (inr b))) inr ((has-joined B C p q).0 k))
          ((has-joined A (joined B C) p q).0 h)),
    ))

pub joined-self : (A : List ℕ) → joined A A ≡ A
joined-self A =
    ext (joined A A) A (length-joined A A refl) (λ p q. (λ h. ⊎_elim (λ a. a) (λ a. a) ((has-joined A A p q).0 h), λ h. (has-joined A A p q).1 (inl h)))

-- Composition is associative.
pub composed-assoc : (A B C : List ℕ) → composed (composed A B) C ≡ composed A (composed B C)
composed-assoc A B C =
    ext (composed (composed A B) C) (composed A (composed B C)) (simp length-map)
    (λ p s. (
      λ h.
          let c = (has-composed (composed A B) C p s).0 h in
          let d = (has-composed A B p c.0).0 c.1 in
          (has-composed A (composed B C) p s).1 (d.0, d.1, (has-composed B C d.0 s).1 (c.0, d.2, c.2)),
      λ h.
          let c = (has-composed A (composed B C) p s).0 h in
          let d = (has-composed B C c.0 s).0 c.2 in
          (has-composed (composed A B) C p s).1 (d.0, (has-composed A B p d.0).1 (c.0, c.1, d.1), d.2),
    ))

-- A chain of pairs each of which is a chain of other pairs is a chain of those.
chain-map : {n : ℕ} {A B : List ℕ} → ((p q : ℕ) → has A p q → Chain n B p q) → {p q : ℕ} → Chain n A p q → Chain n B p q
chain-map f (stop l) = stop l
chain-map f (step {p = p} {q = q} h c) = chain-trans (f p q h) (chain-map f c)

-- Two relations close to the same where the pairs of each are chains of the other.
pub closed_same : (n : ℕ) (A B : List ℕ) → n ≤ 24 → Within n A → Within n B → ((p q : ℕ) → has A p q → Chain n B p q)
    → ((p q : ℕ) → has B p q → Chain n A p q) → closed n A ≡ closed n B
closed_same n A B l u v f g =
    same-pairs (closed n A) (closed n B) (within-closed n A l u) (within-closed n B l v)
    (λ p q. (
      λ h. (has-closed n B l v p q).1 (chain-map f ((has-closed n A l u p q).0 h)),
      λ h. (has-closed n A l u p q).1 (chain-map g ((has-closed n B l v p q).0 h)),
    ))

one : (n : ℕ) (R : List ℕ) → Within n R → (p q : ℕ) → has R p q → Chain n R p q
one n R w p q h = step h (stop (w.inside p q h).1)

grown : (n : ℕ) (R : List ℕ) → n ≤ 24 → Within n R → (p q : ℕ) → has R p q → has (closed n R) p q
grown n R l w p q h = (has-closed n R l w p q).1 (one n R w p q h)

-- Closure is idempotent.
pub closed-closed : (n : ℕ) (R : List ℕ) → n ≤ 24 → Within n R → closed n (closed n R) ≡ closed n R
closed-closed n R l w =
    let v = within-closed n R l w in
    closed_same n (closed n R) R l v w (λ p q h. (has-closed n R l w p q).0 h) (λ p q h. one n (closed n R) v p q (grown n R l w p q h))

-- A join closes to what the join of the two closures closes to.
pub closed-joined : (n : ℕ) (A B : List ℕ) → n ≤ 24 → Within n A → Within n B
    → closed n (joined A B) ≡ closed n (joined (closed n A) (closed n B))
closed-joined n A B l u v =
    closed_same n (joined A B) (joined (closed n A) (closed n B)) l (within-joined n A B u v) w
    (λ p q h.
    one n (joined (closed n A) (closed n B)) w p q
    ((has-joined (closed n A) (closed n B) p q).1
    (⊎_elim (λ a. inl (grown n A l u p q a)) (λ b. inr (grown n B l v p q b)) ((has-joined A B p q).0 h))))
    (λ p q h.
    ⊎_elim (λ a. chain-map left ((has-closed n A l u p q).0 a)) (λ b. chain-map right ((has-closed n B l v p q).0 b))
    ((has-joined (closed n A) (closed n B) p q).0 h))
  where
    w : Within n (joined (closed n A) (closed n B))
    w = within-joined n (closed n A) (closed n B) (within-closed n A l u) (within-closed n B l v)

    left : (p q : ℕ) → has A p q → Chain n (joined A B) p q
    left p q a = one n (joined A B) (within-joined n A B u v) p q ((has-joined A B p q).1 (inl a))

    right : (p q : ℕ) → has B p q → Chain n (joined A B) p q
    right p q b = one n (joined A B) (within-joined n A B u v) p q ((has-joined A B p q).1 (inr b))

-- The closure composed with itself is the closure.
pub closed-composed : (n : ℕ) (R : List ℕ) → n ≤ 24 → Within n R → composed (closed n R) (closed n R) ≡ closed n R
closed-composed n R l w =
    same-pairs (composed C C) C (within-composed n C C v v) v
    (λ p r. (
      λ h.
          let c = (has-composed C C p r).0 h in
          (has-closed n R l w p r).1 (chain-trans ((has-closed n R l w p c.0).0 c.1) ((has-closed n R l w c.0 r).0 c.2)),
      λ h. (has-composed C C p r).1 (p, (has-closed n R l w p p).1 (stop (v.inside p r h).0), h),
    ))
  where
    C : List ℕ
    C = closed n R

    v : Within n (closed n R)
    v = within-closed n R l w
