-- The computed tables are the overloops and loops of runs, and the computed answer is acceptance: for every proper automaton, place and
-- tree.
use mathlib.Core.Path.{◌≡◌, refl, ap, ◌∙◌}
use mathlib.Core.Logic.Iff
use mathlib.Core.Logic.{◌⊎◌, inl, inr, ⊎_elim, ◌↔◌}
use mathlib.Core.List.{List}
use Prim.Native.Nat.{ℕ, zero, suc, ◌+◌, ◌<◌}
use native.Mathlib.Nat.{add-zero, zero-add, suc-add, add-suc}
use native.Mathlib.Omega.{arith}
use lib.ListN.{length, get_or}
use lib.Dec.{T}
use Rattle.relation.proofs.BitLaws.{bit-zero}
use Rattle.relation.specs.Rows.{has, no_pairs, joined, composed, closed}
use Rattle.relation.specs.Growth.{growth_of}
use Rattle.relation.proofs.Pairs.{has-none, has-joined, has-composed, meeting-has}
use Rattle.relation.specs.Chain.{Within, Chain as Pairs, stop, step}
use Rattle.relation.proofs.ChainLaws.{has-closed, within-closed}
use Rattle.relation.proofs.Algebra.{within_none, within-joined, within-composed, same-pairs}
use Rattle.model.specs.declared.Side.TheVariants.{Left, Right}
use Rattle.model.specs.declared.Place.{Place}
use Rattle.model.specs.declared.Place.TheVariants.{Root, Child}
use Rattle.model.specs.declared.Move.{Move}
use Rattle.model.specs.declared.Move.TheVariants.{Stay, Up, Down}
use Rattle.model.specs.Trees.{Tree, leaf, node}
use Rattle.model.specs.Runs.{Chain, done, ◌then◌, Loop, UpClosure, Overloop, Simple, loop_here, loop_down}
use Rattle.model.proofs.Loops.{loop-leaf}
use Rattle.model.proofs.FromParts.{Same, sides, parts-by, loop-node-by, overloop-node}
use Rattle.algorithms.specs.Automaton.{Automaton, In, Δ, Accepted, Proper}
use Rattle.algorithms.proofs.Tests.{T_true}
use Rattle.algorithms.specs.Overloops.{rows_from, moves, leaf_simple, node_simple, leaf_loops, node_loops, up_closure, leaf_overloops, node_overloops, overloops, loops}
use Rattle.algorithms.specs.Overloops.{accepted_by, accepts?}
use Rattle.algorithms.specs.Growth.{leaf_growth, node_growth}

-- ---- rows made of a function

length-rows : (f : ℕ → ℕ) (at k : ℕ) → length (rows_from f at k) ≡ k
length-rows f at zero = refl
length-rows f at (suc k) = ap suc (length-rows f (suc at) k)

of-rows : (f : ℕ → ℕ) (at k p q : ℕ) → has (rows_from f at k) p q → In (f (at + p)) q
of-rows f at zero p q h = absurd (omega (arith, bit-zero q, h))
of-rows f at (suc k) zero q h = rw add-zero h
of-rows f at (suc k) (suc p) q h = rw (add-suc, ← suc-add) (of-rows f (suc at) k p q h)

to-rows : (f : ℕ → ℕ) (at k p q : ℕ) → p < k → In (f (at + p)) q → has (rows_from f at k) p q
to-rows f at zero p q l h = absurd (omega arith)
to-rows f at (suc k) zero q l h = rw add-zero at h
to-rows f at (suc k) (suc p) q l h = to-rows f (suc at) k p q (omega arith) (rw (add-suc, ← suc-add) at h)

pub row_at : (f : ℕ → ℕ) (at k p : ℕ) → p < k → get_or (rows_from f at k) p 0 ≡ f (at + p)
row_at f at zero p l = absurd (omega arith)
row_at f at (suc k) zero l = rw add-zero
row_at f at (suc k) (suc p) l = row_at f (suc at) k p (omega arith) ∙ rw (add-suc, suc-add)

-- ---- chains of pairs of a table, and chains of a relation that has the same pairs

module _ {n : ℕ} {R : List ℕ} {S : ℕ → ℕ → Type 0} where
  pub of-pairs : ((a b : ℕ) → has R a b → S a b) → {p q : ℕ} → Pairs n R p q → Chain S p q
  of-pairs f (stop l) = done
  of-pairs f (step h c) = f _ _ h then of-pairs f c

  pub to-pairs : ((a b : ℕ) → S a b → has R a b) → {p q : ℕ} → q < n → Chain S p q → Pairs n R p q
  to-pairs f l done = stop l
  to-pairs f l (x then c) = step (f _ _ x) (to-pairs f l c)

-- ---- the tables of an automaton

module _ (A : Automaton) where
  -- What code reads: row p of the table is the set of next states.
  pub row-moves : (σ : ℕ) (τ : Place) (μ : Move) (p : ℕ) → p < 24 → get_or (moves A σ τ μ) p 0 ≡ A.next σ τ μ p
  unfolding moves
  row-moves σ τ μ p l = row_at (A.next σ τ μ) 0 24 p l ∙ rw zero-add

module _ (A : Automaton) (P : Proper A) where
  abbrev n : ℕ
  n = A.states

  pub has-moves : (σ : ℕ) (τ : Place) (μ : Move) (p q : ℕ) → has (moves A σ τ μ) p q ↔ Δ A σ p τ μ q
  unfolding moves
  has-moves σ τ μ p q = (
    λ h. rw zero-add at (of-rows (A.next σ τ μ) 0 24 p q h),
    λ h. to-rows (A.next σ τ μ) 0 24 p q (let b = P.transitions σ τ μ p q h in omega (arith, b.0, P.few)) (rw zero-add h),
  )

  pub within-moves : (σ : ℕ) (τ : Place) (μ : Move) → Within n (moves A σ τ μ)
  unfolding moves
  within-moves σ τ μ =
      record { rows = length-rows (A.next σ τ μ) 0 24; inside = λ p q h. P.transitions σ τ μ p q ((has-moves σ τ μ p q).0 h) }

  -- The closure of a table, where its pairs are those of S.
  module _ {S : ℕ → ℕ → Type 0} (R : List ℕ) (w : Within n R) (same : Same (has R) S) where
    has-chains : (p q : ℕ) → has (closed n R) p q ↔ (Chain S p q × (q < n))
    has-chains p q = (
      λ h. (of-pairs (λ a b. (same a b).0) ((has-closed n R P.few w p q).0 h), ((within-closed n R P.few w).inside p q h).1),
      λ c. (has-closed n R P.few w p q).1 (to-pairs (λ a b. (same a b).1) c.1 c.0),
    )

  -- ---- a leaf
  module _ (τ : Place) (σ : ℕ) where
    pub has-leaf_loops : (p q : ℕ) → has (leaf_loops A τ σ) p q ↔ (Loop (Δ A) τ (leaf σ) p q × (q < n))
    unfolding leaf_loops
    has-leaf_loops p q =
        let e = has-chains (moves A σ τ Stay) (within-moves σ τ Stay) (has-moves σ τ Stay) p q in
        (λ h. ((loop-leaf (Δ A)).1 (e.0 h).0, (e.0 h).1), λ c. e.1 ((loop-leaf (Δ A)).0 c.0, c.1))

    pub within-leaf_loops : Within n (leaf_loops A τ σ)
    unfolding leaf_loops
    within-leaf_loops = within-closed n (moves A σ τ Stay) P.few (within-moves σ τ Stay)

    -- ---- a node, from the overloops of its parts
    module _ (L R : List ℕ) (u : Within n L) (v : Within n R) where
      -- The simple loops: by staying, through the left part, through the right part.
      abbrev by_stay : List ℕ
      by_stay = moves A σ τ Stay

      abbrev by_left : List ℕ
      by_left = composed (moves A σ τ (Down Left)) L

      abbrev by_right : List ℕ
      by_right = composed (moves A σ τ (Down Right)) R

      abbrev pub Simples : ℕ → ℕ → Type 0
      Simples = Simple (Δ A) τ σ (sides (has L) (has R))

      -- The table that is given, shut.
      simples : List ℕ
      simples = node_simple A τ σ L R

      within-simples : Within n simples
      unfolding simples
      within-simples =
          within-joined n _ _
          (within-joined n _ _ (within-moves σ τ Stay) (within-composed n _ L (within-moves σ τ (Down Left)) u))
          (within-composed n _ R (within-moves σ τ (Down Right)) v)

      of_left : (p q : ℕ) → has by_left p q → Simples p q
      of_left p q h =
          let c = (has-composed (moves A σ τ (Down Left)) L p q).0 h in
          loop_down Left ((has-moves σ τ (Down Left) p c.0).0 c.1) c.2

      of_right : (p q : ℕ) → has by_right p q → Simples p q
      of_right p q h =
          let c = (has-composed (moves A σ τ (Down Right)) R p q).0 h in
          loop_down Right ((has-moves σ τ (Down Right) p c.0).0 c.1) c.2

      to-simples : {p q : ℕ} → Simples p q → (has by_stay p q ⊎ has by_left p q) ⊎ has by_right p q
      to-simples (loop_here d) = inl (inl ((has-moves σ τ Stay _ _).1 d))
      to-simples (loop_down Left d x) = inl (inr ((has-composed (moves A σ τ (Down Left)) L _ _).1 (_, (has-moves σ τ (Down Left) _ _).1 d, x)))
      to-simples (loop_down Right d x) = inr ((has-composed (moves A σ τ (Down Right)) R _ _).1 (_, (has-moves σ τ (Down Right) _ _).1 d, x))

      has-simples : (p q : ℕ) → has simples p q ↔ Simples p q
      unfolding simples
      has-simples p q = (
        λ h. ⊎_elim (λ k. ⊎_elim (λ d. loop_here ((has-moves σ τ Stay p q).0 d)) (of_left p q) ((has-joined by_stay by_left p q).0 k)) (of_right p q)
            ((has-joined (joined by_stay by_left) by_right p q).0 h),
        λ s. (has-joined (joined by_stay by_left) by_right p q).1 (⊎_elim (λ k. inl ((has-joined by_stay by_left p q).1 k)) inr (to-simples s)),
      )

      -- The table that is given at a node has the simple loops, and no other pair.
      pub has-node_simple : Same (has (node_simple A τ σ L R)) Simples
      unfolding simples
      has-node_simple = has-simples

      pub within-node_simple : Within n (node_simple A τ σ L R)
      unfolding simples
      within-node_simple = within-simples

      pub has-node_loops : (p q : ℕ) → has (node_loops A τ σ L R) p q ↔ (Chain Simples p q × (q < n))
      unfolding node_loops simples
      has-node_loops = has-chains simples within-simples has-simples

      pub within-node_loops : Within n (node_loops A τ σ L R)
      unfolding node_loops simples
      within-node_loops = within-closed n simples P.few within-simples

  -- A leaf is a node whose parts have no overloops: one function forms the loops of both.
  leaf-given : (τ : Place) (σ : ℕ) → leaf_simple A τ σ ≡ node_simple A τ σ no_pairs no_pairs
  unfolding simples
  leaf-given τ σ =
      let w = within_none n in
      same-pairs (moves A σ τ Stay) (simples τ σ no_pairs no_pairs w w) (within-moves σ τ Stay) (within-simples τ σ no_pairs no_pairs w w)
      (λ p q. (
        λ h. (has-simples τ σ no_pairs no_pairs w w p q).1 (loop_here ((has-moves σ τ Stay p q).0 h)),
        λ h. only_here p q ((has-simples τ σ no_pairs no_pairs w w p q).0 h),
      ))
    where
      only_here : (p q : ℕ) → Simple (Δ A) τ σ (sides (has no_pairs) (has no_pairs)) p q → has (moves A σ τ Stay) p q
      only_here p q (loop_here d) = (has-moves σ τ Stay p q).1 d
      only_here p q (loop_down {m = m} Left d x) = absurd (has-none m q x)
      only_here p q (loop_down {m = m} Right d x) = absurd (has-none m q x)

  pub leaf-as-node : (τ : Place) (σ : ℕ) → leaf_loops A τ σ ≡ node_loops A τ σ no_pairs no_pairs
  unfolding leaf_loops node_loops
  leaf-as-node τ σ = ap (closed n) (leaf-given τ σ)

  pub leaf-grows-as-node : (τ : Place) (σ : ℕ) → leaf_growth A τ σ ≡ node_growth A τ σ no_pairs no_pairs
  unfolding leaf_growth node_growth
  leaf-grows-as-node τ σ = ap (growth_of n) (leaf-given τ σ)

  -- ---- the way up
  module _ (τ : Place) (σ : ℕ) (X : List ℕ) (w : Within n X) where
    pub within-up_closure : Within n (up_closure A τ σ X)
    unfolding up_closure
    within-up_closure = within-composed n X _ w (within-moves σ τ Up)

    has-up_closure : {S : ℕ → ℕ → Type 0} → ((p q : ℕ) → has X p q ↔ (S p q × (q < n))) → Same (has (up_closure A τ σ X)) (UpClosure (Δ A) τ σ S)
    unfolding up_closure
    has-up_closure same p q = (
      λ h. let c = (has-composed X (moves A σ τ Up) p q).0 h in (c.0, ((same p c.0).0 c.1).0, (has-moves σ τ Up c.0 q).0 c.2),
      λ (m, c, u). (has-composed X (moves A σ τ Up) p q).1 (m, (same p m).1 (c, (P.transitions σ τ Up m q u).0), (has-moves σ τ Up m q).1 u),
    )

  -- ---- overloops, of a leaf, of a node and of a tree
  module _ (τ : Place) (σ : ℕ) where
    pub within-leaf_overloops : Within n (leaf_overloops A τ σ)
    unfolding leaf_overloops
    within-leaf_overloops = within-up_closure τ σ (leaf_loops A τ σ) (within-leaf_loops τ σ)

    pub has-leaf_overloops : Same (has (leaf_overloops A τ σ)) (Overloop (Δ A) τ (leaf σ))
    unfolding leaf_overloops
    has-leaf_overloops = has-up_closure τ σ (leaf_loops A τ σ) (within-leaf_loops τ σ) (has-leaf_loops τ σ)

    module _ (L R : List ℕ) (u : Within n L) (v : Within n R) where
      pub within-node_overloops : Within n (node_overloops A τ σ L R)
      unfolding node_overloops
      within-node_overloops = within-up_closure τ σ (node_loops A τ σ L R) (within-node_loops τ σ L R u v)

      pub has-node_overloops : Same (has (node_overloops A τ σ L R)) (UpClosure (Δ A) τ σ (Chain (Simple (Δ A) τ σ (sides (has L) (has R)))))
      unfolding node_overloops
      has-node_overloops = has-up_closure τ σ (node_loops A τ σ L R) (within-node_loops τ σ L R u v) (has-node_loops τ σ L R u v)

  pub within-overloops : (τ : Place) (t : Tree) → Within n (overloops A τ t)
  unfolding overloops
  within-overloops τ (leaf σ) = within-leaf_overloops τ σ
  within-overloops τ (node σ l r) =
      within-node_overloops τ σ (overloops A (Child Left) l) (overloops A (Child Right) r)
      (within-overloops (Child Left) l) (within-overloops (Child Right) r)

  -- The computed table of a tree at a place has its overloops there, and no other pair.
  pub overloops-has : (τ : Place) (t : Tree) → Same (has (overloops A τ t)) (Overloop (Δ A) τ t)
  unfolding overloops
  overloops-has τ (leaf σ) p q = has-leaf_overloops τ σ p q
  overloops-has τ (node σ l r) p q =
      Iff.trans
      (has-node_overloops τ σ (overloops A (Child Left) l) (overloops A (Child Right) r)
      (within-overloops (Child Left) l) (within-overloops (Child Right) r) p q)
      (Iff.symm
      (overloop-node (Δ A)
      (parts-by (Δ A) (λ a b. Iff.symm (overloops-has (Child Left) l a b)) (λ a b. Iff.symm (overloops-has (Child Right) r a b))) p q))

  -- Tables are canonical: trees with the same overloops at a place have the same table there.
  pub overloops-same : (τ : Place) (t u : Tree) → (overloops A τ t ≡ overloops A τ u) ↔ Same (Overloop (Δ A) τ t) (Overloop (Δ A) τ u)
  overloops-same τ t u = (
    λ e p q. Iff.trans (Iff.symm (overloops-has τ t p q)) (rw e (overloops-has τ u p q)),
    λ s. same-pairs (overloops A τ t) (overloops A τ u) (within-overloops τ t) (within-overloops τ u)
        (λ p q. Iff.trans (overloops-has τ t p q) (Iff.trans (s p q) (Iff.symm (overloops-has τ u p q)))),
  )

  -- ---- acceptance
  pub loops-has : (τ : Place) (t : Tree) (p q : ℕ) → has (loops A τ t) p q ↔ (Loop (Δ A) τ t p q × (q < n))
  unfolding loops
  loops-has τ (leaf σ) p q = has-leaf_loops τ σ p q
  loops-has τ (node σ l r) p q =
      let e = has-node_loops τ σ (overloops A (Child Left) l) (overloops A (Child Right) r)
      (within-overloops (Child Left) l) (within-overloops (Child Right) r) p q in
      let f = loop-node-by (Δ A)
      (parts-by (Δ A) (λ a b. Iff.symm (overloops-has (Child Left) l a b)) (λ a b. Iff.symm (overloops-has (Child Right) r a b))) p q in
      (λ h. (f.1 (e.0 h).0, (e.0 h).1), λ c. e.1 (f.0 c.0, c.1))

  -- Where a table has the loops at the root, the test tells acceptance.
  accepting-has : (t : Tree) (X : List ℕ) → ((p q : ℕ) → has X p q ↔ (Loop (Δ A) Root t p q × (q < n))) → T (accepted_by A X) ↔ Accepted A t
  accepting-has t X same = (
    λ h. let c = (meeting-has X A.initial A.accepting).0 (T_true (accepted_by A X) h) in
        (c.0, c.1, c.2, c.3, ((same c.0 c.1).0 c.4).0),
    λ (i, f, a, b, c). rw ((meeting-has X A.initial A.accepting).1 (i, f, a, b, (same i f).1 (c, P.finals f b))) tt,
  )

  -- The computed answer is acceptance by runs (the paper's Corollary 6).
  pub accepts-has : (t : Tree) → T (accepts? A t) ↔ Accepted A t
  unfolding accepts?
  accepts-has t = accepting-has t (loops A Root t) (loops-has Root t)
