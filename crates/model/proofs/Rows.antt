-- The rows kept when round h begins stand for the trees of height below h: their classes are distinct, each is the class of the tree that
-- its row builds, and every such tree has its class among them. So there are N(h - 1) rows.
use Prim.Native.Nat.{ℕ, zero, suc, ◌<◌}
use mathlib.Core.Path.{◌≡◌, refl, sym, ap, subst₂, ◌∙◌}
use mathlib.Core.Logic.{◌⊎◌, inl, inr}
use mathlib.Core.List.Memᴰ
use mathlib.Core.List.{List, [], ◌∷◌, ◌++◌, map, map-append}
use native.Mathlib.Omega.{arith}
use native.Mathlib.Decide.{ℕ_discrete}
use lib.ListN.{length, length-map}
use lib.Dec.{T}
use Rattle.model.specs.Lists.{◌∈◌, Nth, Distinct}
use Rattle.model.proofs.ListLaws.{nth-append, nth_seam, nth-snoc, nth-of-lt, nth-mem, nth-map, distinct_snoc}
use Rattle.model.specs.Trees.{Tree, leaf, node, height}
use Rattle.model.specs.Counting.{Alphabet, Language, Over, Counts}
use Rattle.model.specs.Saturation.{WitnessRow, witness_row, BuildsAt, leaf-row, node-row, Algebra, Candidate, leaf_candidate, class_at}
use Rattle.model.specs.Saturation.{node_candidate, candidates, absorb, rows_of}
use Rattle.model.proofs.Witnesses.{Extends, extends-lt, builds-more}
use Rattle.model.proofs.Recognition.{Recognizes}
use Rattle.model.proofs.CountingLaws.{inequivalent-trees}
use Rattle.model.proofs.Round.{classes, class-at, class-place, mem-node_candidates, of-node_candidates, absorb-keeps, absorb-mem, absorb-covers}

module _ (S : Alphabet) (M : Algebra) where
  -- The rows kept when round h begins, had the rounds no limit and no verdict.
  unfoldable pub kept_before : ℕ → List (Candidate M)
  kept_before zero = []
  kept_before (suc h) = absorb M (kept_before h) (candidates M S h (kept_before h))

module _ (S : Alphabet) (L : Language) (M : Algebra) (W : Recognizes S L M) where
  -- The rows have distinct classes, and each is the class of a tree of height below k that the row builds.
  pub record Grown (k : ℕ) (kept : List (Candidate M)) : Type 0 where
    pub trees : List Tree
    pub classed : map W.cls trees ≡ classes M kept
    pub inside : (t : Tree) → t ∈ trees → Over S t × (height t < k)
    pub built : (i : ℕ) (t : Tree) → Nth trees i t → BuildsAt (rows_of M kept) i t
    pub distinct : Distinct (classes M kept)

  -- The candidate c stands for a tree of height below k, which its row builds at the end of any witness that begins with p.
  pub record Makes (k : ℕ) (p : List WitnessRow) (c : Candidate M) : Type 0 where
    pub tree : Tree
    pub over : Over S tree
    pub low : height tree < k
    pub classed : W.cls tree ≡ c.class
    pub accepting : T c.accepted → L.Accepted tree
    pub built : (q : List WitnessRow) → Extends p q → BuildsAt (q ++ c.row ∷ []) (length q) tree

  grown-length : {k : ℕ} {kept : List (Candidate M)} (g : Grown k kept) → length g.trees ≡ length kept
  grown-length {kept = kept} g = sym (length-map g.trees W.cls) ∙ ap length g.classed ∙ length-map kept (λ r. r.class)

  -- The tree of row i, with what is known of it.
  record TreeAt (k : ℕ) (kept : List (Candidate M)) (i : ℕ) : Type 0 where
    tree : Tree
    over : Over S tree
    low : height tree < k
    classed : class_at M kept i ≡ W.cls tree
    built : BuildsAt (rows_of M kept) i tree

  tree-at : {k : ℕ} {kept : List (Candidate M)} (g : Grown k kept) (i : ℕ) → i < length kept → TreeAt k kept i
  tree-at {kept = kept} g i h =
      let a = nth-of-lt g.trees i (omega (arith, grown-length g)) in
      let n = g.inside a.0 (nth-mem a.1) in
      record {
        tree = a.0;
        over = n.0;
        low = n.1;
        classed = class-at M kept (rw g.classed at (nth-map W.cls a.1));
        built = g.built i a.0 a.1;
      }

  -- ---- every candidate makes a tree
  leaf-makes : (σ : ℕ) (p : List WitnessRow) → σ ∈ S.leaves → Makes 1 p (leaf_candidate M σ)
  unfolding leaf_candidate
  leaf-makes σ p m =
      record {
        tree = leaf σ;
        over = m;
        low = omega arith;
        classed = W.cls-leaf σ m;
        accepting = (W.accepted-leaf σ m).1;
        built = λ q x. leaf-row (nth_seam q _ []);
      }

  node-makes : {k : ℕ} {kept : List (Candidate M)} → Grown k kept → (σ a b : ℕ) → σ ∈ S.branches → a < length kept → b < length kept
      → Makes (suc k) (rows_of M kept) (node_candidate M kept σ a b)
  unfolding node_candidate
  node-makes {k} {kept} g σ a b m h j =
      let l = tree-at g a h in
      let r = tree-at g b j in
      let o : Over S (node σ l.tree r.tree) = (m, l.over, r.over) in
      record {
        tree = node σ l.tree r.tree;
        over = o;
        low = omega (arith, l.low, r.low);
        classed = rw (l.classed, r.classed) (W.cls-node σ l.tree r.tree o);
        accepting = rw (l.classed, r.classed) (W.accepted-node σ l.tree r.tree o).1;
        built =
            λ q x.
            let later : Extends (rows_of M kept) (q ++ witness_row σ a b ∷ []) = λ i s f. nth-append _ (x i s f) in
            node-row (nth_seam q (witness_row σ a b) [])
            (extends-lt x a (omega (arith, length-map kept (λ s. s.row))))
            (extends-lt x b (omega (arith, length-map kept (λ s. s.row))))
            (builds-more later l.built)
            (builds-more later r.built);
      }

  pub candidate-makes : (h : ℕ) {kept : List (Candidate M)} → Grown h kept → (c : Candidate M) → c ∈ candidates M S h kept
      → Makes (suc h) (rows_of M kept) c
  unfolding candidates
  candidate-makes zero {kept} g c m =
      let r = Memᴰ.of_map (leaf_candidate M) S.leaves m in
      rw r.2 at (leaf-makes r.0 (rows_of M kept) r.1)
  candidate-makes (suc h) {kept} g c m =
      let r = of-node_candidates M S.branches kept c m in
      rw r.is at (node-makes g r.symbol r.left r.right r.branch r.left-kept r.right_kept)

  -- ---- the rows grow by trees
  grown-snoc : {k : ℕ} {p : List WitnessRow} {rows : List (Candidate M)} {c : Candidate M}
      → Grown k rows → Makes k p c → Extends p (rows_of M rows) → ¬ (c.class ∈ classes M rows) → Grown k (rows ++ c ∷ [])
  grown-snoc {k} {p} {rows} {c} g m x new =
      record {
        trees = g.trees ++ m.tree ∷ [];
        classed = simp (map-append, g.classed, m.classed);
        inside = λ t i. inside t (Memᴰ.append_cases g.trees i);
        built = λ i t a. rw map-append (built i t (nth-snoc a));
        distinct = rw map-append (distinct_snoc (classes M rows) c.class g.distinct new);
      }
    where
      inside : (t : Tree) → (t ∈ g.trees) ⊎ (t ∈ m.tree ∷ []) → Over S t × (height t < k)
      inside t (inl i) = g.inside t i
      inside t (inr i) = rw (Memᴰ.eq_of_singleton i) (m.over, m.low)

      built : (i : ℕ) (t : Tree) → Nth g.trees i t ⊎ ((i ≡ length g.trees) × (m.tree ≡ t)) → BuildsAt (rows_of M rows ++ c.row ∷ []) i t
      built i t (inl a) = builds-more (λ j r f. nth-append _ f) (g.built i t a)
      built i t (inr e) =
          let place : length (rows_of M rows) ≡ i = length-map rows (λ r. r.row) ∙ sym (grown-length g) ∙ sym e.0 in
          subst₂ (BuildsAt _) place e.1 (m.built (rows_of M rows) x)

  grown-weak : {k : ℕ} {kept : List (Candidate M)} → Grown k kept → Grown (suc k) kept
  grown-weak g =
      record {
        trees = g.trees;
        classed = g.classed;
        inside = λ t i. ((g.inside t i).0, omega (arith, (g.inside t i).1));
        built = g.built;
        distinct = g.distinct;
      }

  pub grown : (h : ℕ) → Grown h (kept_before S M h)
  unfolding kept_before
  grown zero =
      record {
        trees = [];
        classed = refl;
        inside = λ t i. absurd (Memᴰ.not-nil i);
        built = λ i t a. absurd (Memᴰ.not-nil (nth-mem a));
        distinct = tt;
      }
  grown (suc h) = step (kept_before S M h) (grown h)
    where
      step : (kept : List (Candidate M)) → Grown h kept → Grown (suc h) (absorb M kept (candidates M S h kept))
      step kept g =
          (absorb-keeps M W.same-sound W.same_refl
          (λ rows. Extends (rows_of M kept) (rows_of M rows) × Grown (suc h) rows)
          (candidates M S h kept) kept (λ i r a. a, grown-weak g)
          (λ c m rows p new. (λ i r a. rw map-append (nth-append _ (p.0 i r a)), grown-snoc p.1 (candidate-makes h g c m) p.0 new))
          ).1

  -- ---- the rows cover the trees
  abbrev pub Covers : ℕ → List (Candidate M) → Type 0
  Covers k kept = (t : Tree) → Over S t → height t < k → W.cls t ∈ classes M kept

  -- A candidate that has the class of t, and is accepted if t is.
  pub record Caught (cs : List (Candidate M)) (t : Tree) : Type 0 where
    pub candidate : Candidate M
    pub listed : candidate ∈ cs
    pub classed : candidate.class ≡ W.cls t
    pub accepting : L.Accepted t → T candidate.accepted

  pub catch-leaf : (kept : List (Candidate M)) (σ : ℕ) → Over S (leaf σ) → Caught (candidates M S 0 kept) (leaf σ)
  unfolding candidates leaf_candidate
  catch-leaf kept σ o =
      record {
        candidate = leaf_candidate M σ;
        listed = Memᴰ.map (leaf_candidate M) o;
        classed = sym (W.cls-leaf σ o);
        accepting = (W.accepted-leaf σ o).0;
      }

  pub catch-node : (h : ℕ) (kept : List (Candidate M)) (σ : ℕ) (l r : Tree) → Over S (node σ l r)
      → W.cls l ∈ classes M kept → W.cls r ∈ classes M kept → Caught (candidates M S (suc h) kept) (node σ l r)
  unfolding candidates node_candidate
  catch-node h kept σ l r o i j =
      let a = class-place M kept (W.cls l) i in
      let b = class-place M kept (W.cls r) j in
      record {
        candidate = node_candidate M kept σ a.0 b.0;
        listed = mem-node_candidates M S.branches kept σ a.0 b.0 o.0 a.1 b.1;
        classed = rw (a.2, b.2) (sym (W.cls-node σ l r o));
        accepting = rw (a.2, b.2) (W.accepted-node σ l r o).0;
      }

  pub catch : (h : ℕ) (kept : List (Candidate M)) → Covers h kept → (t : Tree) → Over S t → height t ≡ h → Caught (candidates M S h kept) t
  catch zero kept cov (leaf σ) o e = catch-leaf kept σ o
  catch zero kept cov (node σ l r) o e = absurd (omega arith)
  catch (suc h) kept cov (leaf σ) o e = absurd (omega arith)
  catch (suc h) kept cov (node σ l r) o e = catch-node h kept σ l r o (cov l o.1 (omega arith)) (cov r o.2 (omega arith))

  pub absorb-caught : {cs : List (Candidate M)} {t : Tree} (kept : List (Candidate M)) → Caught cs t → W.cls t ∈ classes M (absorb M kept cs)
  absorb-caught {cs} kept c = rw c.classed at (absorb-covers M W.same-sound W.same_refl c.candidate cs kept c.listed)

  pub covers : (h : ℕ) → Covers h (kept_before S M h)
  unfolding kept_before
  covers zero = λ t o b. absurd (omega arith)
  covers (suc h) = step (kept_before S M h) (covers h)
    where
      step : (kept : List (Candidate M)) → Covers h kept → Covers (suc h) (absorb M kept (candidates M S h kept))
      step kept cov t o b = by (ℕ_discrete (height t) h)
        where
          by : Dec (height t ≡ h) → W.cls t ∈ classes M (absorb M kept (candidates M S h kept))
          by (yes e) = absorb-caught kept (catch h kept cov t o e)
          by (no e) = absorb-mem M W.same-sound W.same_refl (W.cls t) (candidates M S h kept) kept (cov t o (omega arith))

  -- ---- N(h - 1) is the number of rows kept when round h begins
  pub counts : (h : ℕ) → Counts S L h (length (kept_before S M h))
  counts h =
      let g = grown h in
      record {
        trees = g.trees;
        size = grown-length g;
        inside = g.inside;
        inequivalent = inequivalent-trees S L M W g.trees (λ t m. (g.inside t m).0) (rw g.classed g.distinct);
        all =
            λ t o b. let r = Memᴰ.of_map W.cls g.trees (rw (sym g.classed) at (covers h t o b)) in
            (r.0, r.1, (W.equivalent t r.0 o (g.inside r.0 r.1).0).1 (sym r.2));
      }

  pub counts-exist : (k : ℕ) → (n : ℕ) × Counts S L k n
  counts-exist k = (length (kept_before S M k), counts k)
