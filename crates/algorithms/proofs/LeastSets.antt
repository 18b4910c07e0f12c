-- The computed sets are the least that hold what document 01 asks (`parts-least`); so Clear says that no tree of any size is accepted
-- (`clear-sound`).
use mathlib.Core.Path.{◌≡◌, refl, sym, ap, ap₂, subst, ◌∙◌}
use mathlib.Core.Logic.{◌⊎◌, inl, inr, ◌↔◌}
use mathlib.Core.Bool.{Bool, true, false}
use mathlib.Core.List.{List}
use Prim.Native.Nat.{ℕ, zero, suc, ◌+◌, ◌^◌, ◌≤◌, ◌<◌}
use native.Mathlib.Omega.{arith}
use lib.Dec.{T, T_not, not_T}
use Rattle.relation.proofs.BitLaws.{bit-pow, bit-pow-eq}
use Rattle.relation.specs.Rows.{has, holding}
use Rattle.relation.proofs.Pairs.{holding-has, meeting-has}
use Rattle.model.specs.declared.Side.{Side}
use Rattle.model.specs.declared.Side.TheVariants.{Left, Right}
use Rattle.model.specs.declared.Place.{Place}
use Rattle.model.specs.declared.Place.TheVariants.{Child}
use Rattle.model.specs.Trees.{Tree}
use Rattle.model.specs.Runs.{Chain, Overloop, Simple}
use Rattle.model.specs.Counting.{Over}
use Rattle.model.proofs.RunLaws.{chain-map}
use Rattle.model.proofs.FromParts.{simple-map}
use Rattle.model.specs.Approximation.{Part, Top, Holds, Least}
use Rattle.model.proofs.Inside.{overloop-inside, clear-rejects}
use Rattle.algorithms.specs.Automaton.{Automaton, In, Δ, Accepted, Proper, alphabet_of}
use Rattle.algorithms.specs.Overloops.{accepted_by}
use Rattle.algorithms.specs.Saturate.{Parts, parts, same_parts}
use Rattle.algorithms.specs.Approximate.{side, stop_if, leaf_side, formed_side, formed, settled, least_parts, root_side, sets_of, clear?}
use Rattle.algorithms.proofs.Tests.{T_true}
use Rattle.algorithms.proofs.Recognized.{same-sound, same_refl}
use Rattle.algorithms.proofs.Growth.{pairs, pairs-few, pairs-more}
use Rattle.algorithms.proofs.FormedSets.{Tabled, WithinParts, Formed, LeafTop, BranchTop, side-formed, has-leaf_side, within-leaf_side}
use Rattle.algorithms.proofs.FormedSets.{within-side, within-formed_side, within-formed, has-formed_side, has-root_side}

-- ---- tables, sets and the overloops of parts

tabled : (x : Parts) (s : Side) (p q : ℕ) → has (side s x) p q → Tabled x s p q
tabled x Left p q h = h
tabled x Right p q h = h

of-tabled : (x : Parts) (s : Side) (p q : ℕ) → Tabled x s p q → has (side s x) p q
of-tabled x Left p q h = h
of-tabled x Right p q h = h

held : (R : List ℕ) (p q : ℕ) → T (holding R p q) ↔ has R p q
held R p q = (λ t. (holding-has R p q).0 (T_true _ t), λ h. rw ((holding-has R p q).1 h) tt)

module _ (A : Automaton) (P : Proper A) where
  -- ---- until nothing is new
  settled-keeps : (Q : Parts → Type 0) → ((x : Parts) → Q x → Q (formed A x)) → (k : ℕ) (x : Parts) → Q x → Q (settled A k x)
  unfolding settled
  settled-keeps Q grow zero x q = q
  settled-keeps Q grow (suc k) x q = by (same_parts (formed A x) x) (settled-keeps Q grow k (formed A x) (grow x q))
    where
      by : (b : Bool) → Q (settled A k (formed A x)) → Q (stop_if b x (settled A k (formed A x)))
      by true r = q
      by false r = r

  size : Parts → ℕ
  size x = pairs 24 x.left + pairs 24 x.right

  size_few : (x : Parts) → WithinParts A x → size x ≤ 1152
  unfolding size
  size_few x w = omega (arith, pairs-few P.few x.left w.0, pairs-few P.few x.right w.1)

  size-more : (x : Parts) → WithinParts A x → (x ≡ formed A x) ⊎ (size x < size (formed A x))
  unfolding size formed
  size-more x w = by (more Left) (more Right)
    where
      more : (s : Side) → (side s x ≡ formed_side A s x) ⊎ (pairs 24 (side s x) < pairs 24 (formed_side A s x))
      more s =
          pairs-more P.few (side s x) (formed_side A s x) (within-side A P x w s) (within-formed_side A P x w s)
          (λ p q h. (has-formed_side A P x w s p q).1 (inl h))

      by : (x.left ≡ formed_side A Left x) ⊎ (pairs 24 x.left < pairs 24 (formed_side A Left x))
          → (x.right ≡ formed_side A Right x) ⊎ (pairs 24 x.right < pairs 24 (formed_side A Right x))
          → (x ≡ parts (formed_side A Left x) (formed_side A Right x))
          ⊎ (pairs 24 x.left + pairs 24 x.right < pairs 24 (formed_side A Left x) + pairs 24 (formed_side A Right x))
      by (inl e) (inl f) = inl (ap₂ parts e f)
      by (inl e) (inr g) = inr (omega (arith, ap (pairs 24) e))
      by (inr g) (inl e) = inr (omega (arith, ap (pairs 24) e))
      by (inr g) (inr h) = inr (omega arith)

  settled-fixed : (k : ℕ) (x : Parts) → WithinParts A x → 1153 ≤ size x + k → formed A (settled A k x) ≡ settled A k x
  unfolding settled
  settled-fixed zero x w l = absurd (omega (arith, size_few x w))
  settled-fixed (suc k) x w l =
      by (same_parts (formed A x) x) refl (size-more x w)
      (λ (m : 1153 ≤ size (formed A x) + k). settled-fixed k (formed A x) (within-formed A P x w) m)
    where
      by : (b : Bool) → same_parts (formed A x) x ≡ b → (x ≡ formed A x) ⊎ (size x < size (formed A x))
          → (1153 ≤ size (formed A x) + k → formed A (settled A k (formed A x)) ≡ settled A k (formed A x))
          → formed A (stop_if b x (settled A k (formed A x))) ≡ stop_if b x (settled A k (formed A x))
      by true e m later = same-sound (formed A x) x (rw e tt)
      by false e (inl s) later =
          let t : T (same_parts (formed A x) x) = subst (λ (y : Parts). T (same_parts y x)) s (same_refl x) in
          absurd (rw e at t)
      by false e (inr m) later = later (omega arith)

  -- ---- the sets hold
  pub top-has : (x : Parts) (p : ℕ) → Top (sets_of A x) p ↔ ((f : ℕ) × In A.accepting f × has (root_side A x) p f)
  top-has x p = (
    λ t.
        let c = (meeting-has (root_side A x) (2 ^ p) A.accepting).0 (T_true _ t) in
        (c.1, c.3, subst (λ (i : ℕ). has (root_side A x) i c.1) (sym (bit-pow-eq p c.0 c.2)) c.4),
    λ (f, e, h). rw ((meeting-has (root_side A x) (2 ^ p) A.accepting).1 (p, f, bit-pow p, e, h)) tt,
  )

  abbrev HoldsLeaves : Parts → Type 0
  HoldsLeaves x = (s : Side) (p q : ℕ) → has (leaf_side A s) p q → has (side s x) p q

  fixed-holds : (x : Parts) → WithinParts A x → HoldsLeaves x → formed A x ≡ x →
      Holds (Δ A) (alphabet_of A) (In A.accepting) (Part (sets_of A x)) (Top (sets_of A x))
  fixed-holds x w l e =
      record {
        leaf_part = λ s σ p q m c. (held (side s x) p q).1 (l s p q ((has-leaf_side A P s p q).1 (σ, m, c)));
        node_part = λ s σ p q m (k, c, u). (held (side s x) p q).1 (still s p q ((has-formed_side A P x w s p q).1 (inr (σ, m, (k, to-tabled c, u)))));
        leaf_top = λ σ p f m c b. (top-has x p).1 (f, b, (has-root_side A P x w p f).1 (inl (σ, m, (c, P.finals f b))));
        node_top = λ σ p f m c b. (top-has x p).1 (f, b, (has-root_side A P x w p f).1 (inr (σ, m, (to-tabled c, P.finals f b))));
      }
    where
      still : (s : Side) (p q : ℕ) → has (formed_side A s x) p q → has (side s x) p q
      still s p q h = subst (λ (y : List ℕ). has y p q) (sym (side-formed A s x) ∙ ap (side s) e) h

      to-tabled : {τ : Place} {σ p q : ℕ} → Chain (Simple (Δ A) τ σ (Part (sets_of A x))) p q → Chain (Simple (Δ A) τ σ (Tabled x)) p q
      to-tabled = chain-map (λ k. k) (simple-map (Δ A) (λ s a b z. tabled x s a b ((held (side s x) a b).0 z)))

  -- ---- and any sets that hold have them inside
  module _ {Q : Side → ℕ → ℕ → Type 0} {R : ℕ → Type 0} (h : Holds (Δ A) (alphabet_of A) (In A.accepting) Q R) where
    abbrev Below : Parts → Type 0
    Below x = (s : Side) (p q : ℕ) → has (side s x) p q → Q s p q

    below_chain : (x : Parts) → Below x → {τ : Place} {σ p q : ℕ} → Chain (Simple (Δ A) τ σ (Tabled x)) p q → Chain (Simple (Δ A) τ σ Q) p q
    below_chain x b = chain-map (λ k. k) (simple-map (Δ A) (λ s a c z. b s a c (of-tabled x s a c z)))

    below-formed : (x : Parts) → WithinParts A x × Below x → WithinParts A (formed A x) × Below (formed A x)
    below-formed x g = (within-formed A P x g.0, λ s p q k. by s p q ((has-formed_side A P x g.0 s p q).0 (rw (side-formed A) at k)))
      where
        by : (s : Side) (p q : ℕ) → has (side s x) p q ⊎ Formed A x s p q → Q s p q
        by s p q (inl k) = g.1 s p q k
        by s p q (inr (σ, m, (r, c, u))) = h.node_part s σ p q m (r, below_chain x g.1 c, u)

    below_top : (x : Parts) → WithinParts A x → Below x → (p : ℕ) → Top (sets_of A x) p → R p
    below_top x w b p t = let c = (top-has x p).0 t in by c.0 c.1 ((has-root_side A P x w p c.0).0 c.2)
      where
        by : (f : ℕ) → In A.accepting f → LeafTop A p f ⊎ BranchTop A x p f → R p
        by f e (inl (σ, m, (c, l))) = h.leaf_top σ p f m c e
        by f e (inr (σ, m, (c, l))) = h.node_top σ p f m (below_chain x b c) e

  -- ---- the computed sets
  abbrev start : Parts
  start = parts (leaf_side A Left) (leaf_side A Right)

  within-start : WithinParts A start
  within-start = (within-leaf_side A P Left, within-leaf_side A P Right)

  start-leaves : HoldsLeaves start
  start-leaves Left p q h = h
  start-leaves Right p q h = h

  parts-fixed : formed A (least_parts A) ≡ least_parts A
  unfolding least_parts
  parts-fixed = settled-fixed 1153 start within-start (omega arith)

  pub within-least : WithinParts A (least_parts A)
  unfolding least_parts
  within-least = settled-keeps (WithinParts A) (within-formed A P) 1153 start within-start

  parts-leaves : HoldsLeaves (least_parts A)
  unfolding least_parts
  parts-leaves =
      (settled-keeps (λ x. WithinParts A x × HoldsLeaves x)
      (λ x g. (within-formed A P x g.0, λ s p q h. rw (side-formed A) ((has-formed_side A P x g.0 s p q).1 (inl (g.1 s p q h)))))
      1153 start (within-start, start-leaves)).1

  parts_below : {Q : Side → ℕ → ℕ → Type 0} {R : ℕ → Type 0} → Holds (Δ A) (alphabet_of A) (In A.accepting) Q R →
      (s : Side) (p q : ℕ) → has (side s (least_parts A)) p q → Q s p q
  unfolding least_parts
  parts_below {Q} h = (settled-keeps (λ x. WithinParts A x × Below h x) (below-formed h) 1153 start (within-start, first)).1
    where
      first : (s : Side) (p q : ℕ) → has (side s start) p q → Q s p q
      first Left p q k = let c = (has-leaf_side A P Left p q).0 k in h.leaf_part Left c.0 p q c.1 c.2
      first Right p q k = let c = (has-leaf_side A P Right p q).0 k in h.leaf_part Right c.0 p q c.1 c.2

  pub parts-hold : Holds (Δ A) (alphabet_of A) (In A.accepting) (Part (sets_of A (least_parts A))) (Top (sets_of A (least_parts A)))
  parts-hold = fixed-holds (least_parts A) within-least parts-leaves parts-fixed

  -- The computed sets are the least that hold the overloops of all leaves and what branches form.
  pub parts-least : Least (Δ A) (alphabet_of A) (In A.accepting) (sets_of A (least_parts A))
  parts-least =
      record {
        holds = parts-hold;
        least = λ Y h. (
          λ s p q t. parts_below h s p q ((held (side s (least_parts A)) p q).0 t),
          below_top h (least_parts A) within-least (parts_below h),
        );
      }

  -- Clear: no initial state is in the root set.
  pub clear-has : T (clear? A) ↔ ((p : ℕ) → In A.initial p → ¬ Top (sets_of A (least_parts A)) p)
  unfolding clear?
  clear-has =
      let X = root_side A (least_parts A) in
      let e = meeting-has X A.initial A.accepting in (
        λ t p i k. let c = (top-has (least_parts A) p).0 k in T_not (accepted_by A X) t (rw (e.1 (p, c.0, i, c.1, c.2)) tt),
        λ h. not_T (accepted_by A X) (λ t. let c = e.0 (T_true _ t) in h c.0 c.2 ((top-has (least_parts A) c.0).1 (c.1, c.3, c.4))),
      )

  -- The paper's Lemma 27: the overloops of every tree are inside.
  pub parts-inside : (t : Tree) → Over (alphabet_of A) t → (s : Side) (p q : ℕ) → Overloop (Δ A) (Child s) t p q → has (side s (least_parts A)) p q
  parts-inside t o s p q c =
      (held (side s (least_parts A)) p q).0 (overloop-inside (Δ A) (alphabet_of A) (In A.accepting) parts-hold t o s p q c)

  -- The paper's Theorem 28: where the answer is Clear, no tree of any size is accepted.
  pub clear-sound : T (clear? A) → (t : Tree) → Over (alphabet_of A) t → ¬ Accepted A t
  clear-sound c = clear-rejects (Δ A) (alphabet_of A) (In A.accepting) parts-hold (clear-has.0 c)
