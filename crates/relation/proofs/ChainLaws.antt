-- The closure of a relation has a pair (p, q) just where a chain of the relation's pairs leads from p to q (`has-closed`): one proof for every
-- number of states. Why Warshall's algorithm is right: after step k the relation is transitive through each state up to k (`Through`).
-- Assumes nothing.
use mathlib.Core.Path.{◌≡◌, refl, sym, ◌∙◌, subst}
use mathlib.Core.Logic.{◌⊎◌, inl, inr, ⊎_elim, ◌↔◌}
use mathlib.Core.List.{List}
use Prim.Native.Nat.{ℕ, zero, suc, ◌≤◌, ◌<◌}
use native.Mathlib.Nat.{le_of_suc-le-suc, not-suc-le-zero, le_refl, le_trans, le-suc, eq-or-lt_of_le}
use native.Mathlib.Omega.{arith}
use lib.ListN.{length, length-set, length-map}
use Rattle.relation.specs.Rows.{has, added, through, closed}
use Rattle.relation.proofs.Pairs.{has-added, has-through}
use Rattle.relation.specs.Chain.{Chain, stop, step, Within}

pub chain-trans : {n : ℕ} {R : List ℕ} {p q r : ℕ} → Chain n R p q → Chain n R q r → Chain n R p r
chain-trans (stop l) d = d
chain-trans (step h c) d = step h (chain-trans c d)

-- ---- one step of the algorithm

-- R is transitive through each state below k.
abbrev Through : ℕ → List ℕ → Type 0
Through k R = (m p q : ℕ) → m < k → has R p m → has R m q → has R p q

through-added : (k : ℕ) (R : List ℕ) → k < length R → Through k R → Through k (added R k k)
through-added k R l t m p q lm hp hq =
    (has-added R k k l p q).1 (inl (t m p q lm (into ((has-added R k k l p m).0 hp)) (out ((has-added R k k l m q).0 hq))))
  where
    into : has R p m ⊎ ((p ≡ k) × (m ≡ k)) → has R p m
    into (inl h) = h
    into (inr e) = absurd (omega (arith, e.1, lm))

    out : has R m q ⊎ ((m ≡ k) × (q ≡ k)) → has R m q
    out (inl h) = h
    out (inr e) = absurd (omega (arith, e.0, lm))

through-step : (k : ℕ) (R : List ℕ) → Through k R → Through (suc k) (through k R)
through-step k R t m p q lm hp hq =
    (has-through k R p q).1 (go (eq-or-lt_of_le (le_of_suc-le-suc lm)) ((has-through k R p m).0 hp) ((has-through k R m q).0 hq))
  where
    go : (m ≡ k) ⊎ (m < k) → has R p m ⊎ (has R p k × has R k m) → has R m q ⊎ (has R m k × has R k q) → has R p q ⊎ (has R p k × has R k q)
    go (inl e) u v =
        inr (
          ⊎_elim (λ h. subst (λ (x : ℕ). has R p x) e h) (λ h. h.0) u,
          ⊎_elim (λ h. subst (λ (x : ℕ). has R x q) e h) (λ h. h.1) v,
        )
    go (inr l) (inl a) (inl b) = inl (t m p q l a b)
    go (inr l) (inl a) (inr b) = inr (t m p k l a b.0, b.1)
    go (inr l) (inr a) (inl b) = inr (a.0, t m k q l a.1 b)
    go (inr l) (inr a) (inr b) = inr (a.0, b.1)

-- ---- the whole algorithm

pub length-closed : (k : ℕ) (R : List ℕ) → length (closed k R) ≡ length R
length-closed zero R = refl
length-closed (suc k) R = simp (length-map, length-set) (length-closed k R)

module _ (R : List ℕ) where
  -- There is a row for each state.
  room : (k : ℕ) → suc k ≤ length R → k < length (closed k R)
  room k l = subst (λ (n : ℕ). k < n) (sym (length-closed k R)) l

  pub closed-through : (k : ℕ) → k ≤ length R → Through k (closed k R)
  closed-through zero l = λ m p q lm hp hq. absurd (not-suc-le-zero lm)
  closed-through (suc k) l =
      through-step k (added (closed k R) k k) (through-added k (closed k R) (room k l) (closed-through k (le_trans (le-suc k) l)))

  pub closed-keeps : (k : ℕ) → k ≤ length R → (p q : ℕ) → has R p q → has (closed k R) p q
  closed-keeps zero l p q h = h
  closed-keeps (suc k) l p q h =
      (has-through k (added (closed k R) k k) p q).1
      (inl ((has-added (closed k R) k k (room k l) p q).1 (inl (closed-keeps k (le_trans (le-suc k) l) p q h))))

  pub closed-refl : (k : ℕ) → k ≤ length R → (p : ℕ) → p < k → has (closed k R) p p
  closed-refl zero l p lp = absurd (not-suc-le-zero lp)
  closed-refl (suc k) l p lp =
      (has-through k (added (closed k R) k k) p p).1
      (inl
      ((has-added (closed k R) k k (room k l) p p).1 (go (eq-or-lt_of_le (le_of_suc-le-suc lp)) (closed-refl k (le_trans (le-suc k) l) p))))
    where
      go : (p ≡ k) ⊎ (p < k) → (p < k → has (closed k R) p p) → has (closed k R) p p ⊎ ((p ≡ k) × (p ≡ k))
      go (inl e) ih = inr (e, e)
      go (inr b) ih = inl (ih b)

  module _ (n : ℕ) (inside : (p q : ℕ) → has R p q → (p < n) × (q < n)) where
    pub chain-inside : {p q : ℕ} → Chain n R p q → (p < n) × (q < n)
    chain-inside (stop l) = (l, l)
    chain-inside (step {p = p} {q = q} h c) = ((inside p q h).0, (chain-inside c).1)

    closed-chain : (k : ℕ) → k ≤ n → k ≤ length R → (p q : ℕ) → has (closed k R) p q → Chain n R p q
    closed-chain zero ln l p q h = step h (stop (inside p q h).1)
    closed-chain (suc k) ln l p q h =
        let earlier = closed-chain k (le_trans (le-suc k) ln) (le_trans (le-suc k) l) in
        let one : (a b : ℕ) → has (added (closed k R) k k) a b → Chain n R a b =
        λ a b g. ⊎_elim (earlier a b) (self a b) ((has-added (closed k R) k k (room k l) a b).0 g)
        in
        ⊎_elim (one p q) (λ w. chain-trans (one p k w.0) (one k q w.1)) ((has-through k (added (closed k R) k k) p q).0 h)
      where
        self : (a b : ℕ) → (a ≡ k) × (b ≡ k) → Chain n R a b
        self a b e = subst (Chain n R a) (e.0 ∙ sym e.1) (stop (subst (λ (x : ℕ). x < n) (sym e.0) ln))

    chain-closed : n ≤ length R → {p q : ℕ} → Chain n R p q → has (closed n R) p q
    chain-closed l (stop {p = p} b) = closed-refl n l p b
    chain-closed l (step {p = p} {q = q} {r = r} h c) = closed-through n l q p r (inside p q h).1 (closed-keeps n l p q h) (chain-closed l c)

-- The closure's pairs are the chains.
pub has-closed : (n : ℕ) (R : List ℕ) → n ≤ 24 → Within n R → (p q : ℕ) → has (closed n R) p q ↔ Chain n R p q
has-closed n R l w p q =
    let m : n ≤ length R = omega (arith, w.rows) in
    (closed-chain R n w.inside n (le_refl n) m p q, chain-closed R n w.inside m)

pub within-closed : (n : ℕ) (R : List ℕ) → n ≤ 24 → Within n R → Within n (closed n R)
within-closed n R l w = record { rows = length-closed n R ∙ w.rows; inside = λ p q h. chain-inside R n w.inside ((has-closed n R l w p q).0 h) }
