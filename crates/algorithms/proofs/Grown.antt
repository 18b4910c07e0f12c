-- The computed growth is the one over runs: `growths` sums, over the nodes of a tree, how many pairs of states closing adds there. There is
-- one such sum, and it is at most 576 for each node. Assumes nothing.
use mathlib.Core.Path.{◌≡◌, refl, sym, ap, ap₂, ◌∙◌}
use mathlib.Core.Logic.Iff
use mathlib.Core.Logic.{◌⊎◌, inl, inr, ⊎_elim, ◌↔◌}
use mathlib.Core.List.Memᴰ
use mathlib.Core.List.{List, [], ◌∷◌, ◌++◌}
use Prim.Native.Nat.{ℕ, zero, suc, ◌+◌, ◌*◌, ◌/◌, ◌%◌, ◌<◌, ◌≤◌}
use native.Mathlib.Nat.{zero-add}
use native.Mathlib.Omega.{arith}
use lib.ListN.{length, length-append}
use Rattle.relation.specs.Bit.{bit}
use Rattle.relation.proofs.BitLaws.{bit-zero, bit-low, bit-half}
use Rattle.relation.specs.Rows.{has, closed, bits_of, count_of}
use Rattle.relation.specs.Chain.{Within}
use Rattle.relation.proofs.ChainLaws.{within-closed}
use Rattle.relation.specs.Growth.{without, growth_of}
use Rattle.relation.proofs.Growing.{length_without, has-without, has-grown, growth-few}
use Rattle.model.specs.declared.Side.{Side}
use Rattle.model.specs.declared.Side.TheVariants.{Left, Right}
use Rattle.model.specs.declared.Place.{Place}
use Rattle.model.specs.declared.Place.TheVariants.{Child}
use Rattle.model.specs.declared.Move.TheVariants.{Stay}
use Rattle.model.specs.Lists.{◌∈◌, Distinct}
use Rattle.model.proofs.ListLaws.{pigeonhole}
use Rattle.model.specs.Trees.{Tree, leaf, node, size}
use Rattle.model.specs.Runs.{Chain, done, ◌then◌, PartOverloop}
use Rattle.model.proofs.FromParts.{Same, sides, simple-map, parts-by}
use Rattle.algorithms.specs.Automaton.{Automaton, Δ, Proper}
use Rattle.algorithms.specs.Overloops.{node_simple, leaf_simple, overloops}
use Rattle.algorithms.specs.Growth.{Counts, leaf_growth, node_growth, own_growth, growths, Given, Added, Grows, at_leaf, at_node}
use Rattle.algorithms.proofs.OverloopLaws.{of-pairs, to-pairs, has-moves, within-moves, has-node_simple, within-node_simple, overloops-has, within-overloops}

-- ---- lists that count

distinct_append : {A : Type 0} (l m : List A) → Distinct l → Distinct m → ((a : A) → a ∈ l → a ∈ m → ⊥) → Distinct (l ++ m)
distinct_append [] m d e apart = e
distinct_append (x ∷ l) m d e apart = (
  λ k. ⊎_elim d.0 (apart x (Memᴰ.head refl)) (Memᴰ.append_cases l k),
  distinct_append l m d.1 e (λ a h. apart a (Memᴰ.tail h)),
)

module _ {P Q : ℕ → ℕ → Type 0} where
  -- the same pairs are as many
  pub counts-map : {k : ℕ} → ((p q : ℕ) → P p q ↔ Q p q) → Counts P k → Counts Q k
  counts-map same c =
      record {
        pairs = c.pairs;
        size = c.size;
        distinct = c.distinct;
        exactly = λ p q. (λ m. (same p q).0 ((c.exactly p q).0 m), λ h. (c.exactly p q).1 ((same p q).1 h));
      }

  -- the pairs of either, where none is of both
  counts-or : {j k : ℕ} → Counts P j → Counts Q k → ((p q : ℕ) → P p q → Q p q → ⊥) → Counts (λ p q. P p q ⊎ Q p q) (j + k)
  counts-or {j} {k} c d apart =
      record {
        pairs = c.pairs ++ d.pairs;
        size = length-append c.pairs d.pairs ∙ ap₂ (λ (x y : ℕ). x + y) c.size d.size;
        distinct = distinct_append c.pairs d.pairs c.distinct d.distinct
            (λ a m n. apart a.0 a.1 ((c.exactly a.0 a.1).0 m) ((d.exactly a.0 a.1).0 n));
        exactly = λ p q. (
          λ m. ⊎_elim (λ h. inl ((c.exactly p q).0 h)) (λ h. inr ((d.exactly p q).0 h)) (Memᴰ.append_cases c.pairs m),
          ⊎_elim (λ h. Memᴰ.append_left d.pairs ((c.exactly p q).1 h)) (λ h. Memᴰ.append_right c.pairs ((d.exactly p q).1 h)),
        );
      }

module _ {P : ℕ → ℕ → Type 0} where
  counts_none : ((p q : ℕ) → P p q → ⊥) → Counts P 0
  counts_none none =
      record { pairs = []; size = refl; distinct = tt; exactly = λ p q. (λ m. absurd (Memᴰ.not-nil m), λ h. absurd (none p q h)) }

  -- there is one count
  pub counts-once : {k j : ℕ} → Counts P k → Counts P j → k ≡ j
  counts-once c d = omega (arith, c.size, d.size, inside c d, inside d c)
    where
      inside : {k j : ℕ} (c : Counts P k) (d : Counts P j) → length c.pairs ≤ length d.pairs
      inside c d =
          pigeonhole c.pairs d.pairs c.distinct (λ a m. (d.exactly a.0 a.1).1 ((c.exactly a.0 a.1).0 m))

-- one pair
abbrev Only : ℕ → ℕ → ℕ → ℕ → Type 0
Only a b p q = (p ≡ a) × (q ≡ b)

counts-only : (a b : ℕ) → Counts (Only a b) 1
counts-only a b =
    record {
      pairs = (a, b) ∷ [];
      size = refl;
      distinct = (Memᴰ.not-nil, tt);
      exactly = λ p q. (to p q, λ (e, f). Memᴰ.head (ap₂ (λ (x y : ℕ). (x, y)) e f));
    }
  where
    to : (p q : ℕ) → ◌∈◌ {A = ℕ × ℕ} (p, q) ((a, b) ∷ []) → Only a b p q
    to p q (Memᴰ.head e) = (ap (λ (z : ℕ × ℕ). z.0) e, ap (λ (z : ℕ × ℕ). z.1) e)
    to p q (Memᴰ.tail m) = absurd (Memᴰ.not-nil m)

-- ---- the pairs of a table, row by row and bit by bit

-- The pairs (a, at + i), for the bits i of x below d.
abbrev InRow : (a at d x : ℕ) → ℕ → ℕ → Type 0
InRow a at d x p q = (p ≡ a) × ((i : ℕ) × (i < d) × (q ≡ at + i) × (bit x i ≡ 1))

row_counts : (a at d x : ℕ) → Counts (InRow a at d x) (bits_of d x)
row_counts a at zero x = counts_none (λ p q h. omega (arith, h.1.1))
row_counts a at (suc d) x = counts-map (λ p q. (to p q, of p q)) (counts-or (low (x % 2) (omega arith)) (row_counts a (suc at) d (x / 2)) apart)
  where
    low : (v : ℕ) → v < 2 → Counts (λ p q. Only a at p q × (v ≡ 1)) v
    low zero l = counts_none (λ p q h. omega (arith, h.1))
    low (suc zero) l = counts-map (λ p q. (λ h. (h, refl), λ h. h.0)) (counts-only a at)
    low (suc (suc v)) l = absurd (omega arith)

    apart : (p q : ℕ) → Only a at p q × (x % 2 ≡ 1) → InRow a (suc at) d (x / 2) p q → ⊥
    apart p q ((e, f), h) (g, (i, l, k, b)) = omega (arith, f, k)

    to : (p q : ℕ) → (Only a at p q × (x % 2 ≡ 1)) ⊎ InRow a (suc at) d (x / 2) p q → InRow a at (suc d) x p q
    to p q (inl ((e, f), h)) = (e, (0, omega arith, omega arith, bit-low x ∙ h))
    to p q (inr (e, (i, l, k, b))) = (e, (suc i, omega arith, omega arith, sym (bit-half x i) ∙ b))

    of : (p q : ℕ) → InRow a at (suc d) x p q → (Only a at p q × (x % 2 ≡ 1)) ⊎ InRow a (suc at) d (x / 2) p q
    of p q (e, (zero, l, k, b)) = inl ((e, omega arith), sym (bit-low x) ∙ b)
    of p q (e, (suc i, l, k, b)) = inr (e, (i, omega arith, omega arith, bit-half x i ∙ b))

-- The pairs (at + i, q) for the pairs (i, q) of the rows.
abbrev InRows : (at : ℕ) → List ℕ → ℕ → ℕ → Type 0
InRows at rows p q = (i : ℕ) × (p ≡ at + i) × (q < 32) × has rows i q

table-counts : (at : ℕ) (rows : List ℕ) → Counts (InRows at rows) (count_of rows)
table-counts at [] = counts_none (λ p q h. omega (arith, bit-zero q, h.3))
table-counts at (row ∷ rows) = counts-map (λ p q. (to p q, of p q)) (counts-or (row_counts at 0 32 row) (table-counts (suc at) rows) apart)
  where
    apart : (p q : ℕ) → InRow at 0 32 row p q → InRows (suc at) rows p q → ⊥
    apart p q (e, h) (i, f, l, k) = omega (arith, e, f)

    to : (p q : ℕ) → InRow at 0 32 row p q ⊎ InRows (suc at) rows p q → InRows at (row ∷ rows) p q
    to p q (inl (e, (i, l, k, b))) = (0, omega arith, omega arith, rw (k, zero-add) b)
    to p q (inr (i, e, l, h)) = (suc i, omega arith, l, h)

    of : (p q : ℕ) → InRows at (row ∷ rows) p q → InRow at 0 32 row p q ⊎ InRows (suc at) rows p q
    of p q (zero, e, l, h) = inl (omega arith, (q, l, sym (zero-add q), h))
    of p q (suc i, e, l, h) = inr (i, omega arith, l, h)

-- as many pairs as `count_of` says
pub counts : (n : ℕ) (R : List ℕ) → n ≤ 24 → Within n R → Counts (has R) (count_of R)
counts n R few w = counts-map (λ p q. (to p q, λ h. (p, sym (zero-add p), wide p q h, h))) (table-counts 0 R)
  where
    to : (p q : ℕ) → InRows 0 R p q → has R p q
    to p q (i, e, l, h) = rw (e, zero-add) h

    wide : (p q : ℕ) → has R p q → q < 32
    wide p q h = omega (arith, (w.inside p q h).1)

-- ---- what closing adds to a table

module _ {n : ℕ} {R : List ℕ} {S : ℕ → ℕ → Type 0} (few : n ≤ 24) (w : Within n R) (same : Same (has R) S) where
  chain-within : {p q : ℕ} → p < n → Chain S p q → q < n
  chain-within l done = l
  chain-within l (x then c) = chain-within (w.inside _ _ ((same _ _).1 x)).1 c

  within_grown : Within n (without (closed n R) R)
  within_grown =
      let v = within-closed n R few w in
      record {
        rows = length_without (closed n R) R ∙ v.rows;
        inside = λ p q h. v.inside p q ((has-without (closed n R) R p q).0 h).0;
      }

  -- chains of the pairs of S, that are no pairs of S
  has-added : (p q : ℕ) → has (without (closed n R) R) p q ↔ ((p < n) × Chain S p q × (¬ S p q))
  has-added p q = (
    λ h. let c = (has-grown n R few w p q).0 h in
        ((within_grown.inside p q h).0, of-pairs (λ a b. (same a b).0) c.0, λ s. c.1 ((same p q).1 s)),
    λ (l, c, s). (has-grown n R few w p q).1 (to-pairs (λ a b. (same a b).1) (chain-within l c) c, λ h. s ((same p q).0 h)),
  )

  grown-counts : Counts (λ p q. (p < n) × Chain S p q × (¬ S p q)) (growth_of n R)
  unfolding growth_of
  grown-counts = counts-map has-added (counts n (without (closed n R) R) few within_grown)

-- ---- at the root of a tree

module _ (A : Automaton) (P : Proper A) where
  -- The table that is given there, with the pairs that are given.
  module _ (τ : Place) (σ : ℕ) (l r : Tree) where
    abbrev simples : List ℕ
    simples = node_simple A τ σ (overloops A (Child Left) l) (overloops A (Child Right) r)

    within-simples : Within A.states simples
    within-simples =
        within-node_simple A P τ σ (overloops A (Child Left) l) (overloops A (Child Right) r)
        (within-overloops A P (Child Left) l) (within-overloops A P (Child Right) r)

    has-simples : Same (has simples) (Given A τ (node σ l r))
    has-simples p q =
        let e = has-node_simple A P τ σ (overloops A (Child Left) l) (overloops A (Child Right) r)
        (within-overloops A P (Child Left) l) (within-overloops A P (Child Right) r) p q in
        (λ h. simple-map (Δ A) (λ s a b. (parts s a b).1) p q (e.0 h), λ h. e.1 (simple-map (Δ A) (λ s a b. (parts s a b).0) p q h))
      where
        parts : (s : Side) → Same (PartOverloop (Δ A) l r s) (sides (has (overloops A (Child Left) l)) (has (overloops A (Child Right) r)) s)
        parts = parts-by (Δ A) (λ a b. Iff.symm (overloops-has A P (Child Left) l a b)) (λ a b. Iff.symm (overloops-has A P (Child Right) r a b))

  -- The computed growth there counts the pairs that closing adds.
  pub own-counts : (τ : Place) (t : Tree) → Counts (Added A τ t) (own_growth A τ t)
  unfolding own_growth leaf_growth node_growth
  own-counts τ (leaf σ) = grown-counts P.few (within-moves A P σ τ Stay) (has-moves A P σ τ Stay)
  own-counts τ (node σ l r) = grown-counts P.few (within-simples τ σ l r) (has-simples τ σ l r)

  pub own-few : (τ : Place) (t : Tree) → own_growth A τ t ≤ 576
  unfolding own_growth leaf_growth node_growth
  own-few τ (leaf σ) = growth-few A.states (leaf_simple A τ σ) P.few (within-moves A P σ τ Stay)
  own-few τ (node σ l r) = growth-few A.states (simples τ σ l r) P.few (within-simples τ σ l r)

-- ---- over a tree

module _ (A : Automaton) where
  pub growths-leaf : (τ : Place) (σ : ℕ) → growths A τ (leaf σ) ≡ own_growth A τ (leaf σ)
  unfolding growths
  growths-leaf τ σ = refl

  pub growths-own : (τ : Place) (σ : ℕ) (l r : Tree)
      → growths A τ (node σ l r) ≡ own_growth A τ (node σ l r) + (growths A (Child Left) l + growths A (Child Right) r)
  unfolding growths
  growths-own τ σ l r = refl

  -- the sum as code forms it: of a leaf, and of a node from its parts' tables and sums
  pub leaf-sum : (τ : Place) (σ : ℕ) {g : ℕ} → g ≡ leaf_growth A τ σ → g ≡ growths A τ (leaf σ)
  unfolding own_growth
  leaf-sum τ σ e = e ∙ sym (growths-leaf τ σ)

  pub node-sum : (τ : Place) (σ : ℕ) (l r : Tree) {L R : List ℕ} {g i j : ℕ} → L ≡ overloops A (Child Left) l → R ≡ overloops A (Child Right) r
      → g ≡ node_growth A τ σ L R → i ≡ growths A (Child Left) l → j ≡ growths A (Child Right) r → g + i + j ≡ growths A τ (node σ l r)
  unfolding own_growth
  node-sum τ σ l r {g = g} el er eg ei ej =
      let own : g ≡ own_growth A τ (node σ l r) = eg ∙ ap₂ (node_growth A τ σ) el er in
      omega (arith, own, ei, ej, growths-own τ σ l r)

  -- There is one sum.
  pub grows-once : {τ : Place} {t : Tree} {k j : ℕ} → Grows A τ t k → Grows A τ t j → k ≡ j
  grows-once (at_leaf c) (at_leaf d) = counts-once c d
  grows-once (at_node c x y) (at_node d u v) = ap₂ (λ (a b : ℕ). a + b) (counts-once c d) (ap₂ (λ (a b : ℕ). a + b) (grows-once x u) (grows-once y v))

module _ (A : Automaton) (P : Proper A) where
  -- The computed sum is the one over runs.
  pub grows : (τ : Place) (t : Tree) → Grows A τ t (growths A τ t)
  unfolding growths
  grows τ (leaf σ) = at_leaf (own-counts A P τ (leaf σ))
  grows τ (node σ l r) = at_node (own-counts A P τ (node σ l r)) (grows (Child Left) l) (grows (Child Right) r)

  -- At most 576 for each node.
  pub growths-few : (τ : Place) (t : Tree) → growths A τ t ≤ 576 * size t
  growths-few τ (leaf σ) = omega (arith, growths-leaf A τ σ, own-few A P τ (leaf σ))
  growths-few τ (node σ l r) =
      omega (arith, growths-own A τ σ l r, own-few A P τ (node σ l r), growths-few (Child Left) l, growths-few (Child Right) r)
