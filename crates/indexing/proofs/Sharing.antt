-- An index for a class keeps a cache a cache: that of a class that does the same, or a new one.
-- Assumes nothing.
use Prim.Native.Nat.{ℕ, ◌+◌, ◌*◌, ◌<◌, ◌≤◌}
use native.Mathlib.Omega.{arith}
use native.Mathlib.Decide.{ℕ_discrete}
use mathlib.Core.Path.{◌≡◌, refl, sym, ap, ◌∙◌}
use mathlib.Core.Logic.{◌⊎◌, inl, inr}
use mathlib.Core.List.{List}
use lib.ListN.{length, get_or, set, length-set}
use lib.Seq.{get_or-set_same, get_or-set_other}
use Rattle.model.specs.declared.Side.{Side}
use Rattle.algorithms.specs.Automaton.{Automaton}
use Rattle.overloops.specs.Tables.{side_number}
use Rattle.overloops.proofs.Laws.{side-small}
use Rattle.class_tables.specs.Classes.{Alike}
use Rattle.class_tables.specs.Cache.{index_place, index_at, key, key_in, word_in, Right, classes, indices, CachedIn}
use Rattle.class_tables.proofs.Laws.{node_alike, alike-sym, alike-trans}
use Rattle.class_tables.proofs.Keeping.{stored}

side-is : (s s' : Side) → side_number s ≡ side_number s' → s ≡ s'
side-is Side.Left Side.Left e = refl
side-is Side.Left Side.Right e = absurd (omega arith)
side-is Side.Right Side.Left e = absurd (omega arith)
side-is Side.Right Side.Right e = refl

module _ (A : Automaton) (counts counts' store maps cells : List ℕ) (k : CachedIn A counts store maps cells) (s : Side) (σ i v : ℕ) (b : σ < 32)
    (h : i < classes counts) (size : length counts' ≡ 6) (same-classes : classes counts' ≡ classes counts)
    (more : (s : Side) → indices counts s ≤ indices counts' s) (few : (s : Side) → indices counts' s ≤ 65536) (some : 0 < v) (used : v < indices counts' s)
    (alike : (σ' j : ℕ) → σ' < 32 → j < classes counts → v ≡ index_at maps s σ' j → (σ ≡ σ') × Alike A store σ s i j)
    (as-left : s ≡ Side.Left → (n r : ℕ) → r < classes counts → key_in (get_or cells n 0) ≡ key v (index_at maps Side.Right σ r)
    → Right A (classes counts) store σ i r (word_in (get_or cells n 0)))
    (as-right : s ≡ Side.Right → (n l : ℕ) → l < classes counts → key_in (get_or cells n 0) ≡ key (index_at maps Side.Left σ l) v
    → Right A (classes counts) store σ l i (word_in (get_or cells n 0))) where
  abbrev place : ℕ
  place = index_place s σ i

  abbrev maps' : List ℕ
  maps' = set maps place v

  -- the index of a class, after the store
  pub record Here (s' : Side) (σ' j : ℕ) : Type 0 where
    pub side : s' ≡ s
    pub symbol : σ' ≡ σ
    pub class : j ≡ i
    pub is : index_at maps' s' σ' j ≡ v

  index-after : (s' : Side) (σ' j : ℕ) → σ' < 32 → j < 1024 → Here s' σ' j ⊎ (index_at maps' s' σ' j ≡ index_at maps s' σ' j)
  index-after s' σ' j b' hj = by (stored maps place v (index_place s' σ' j) (omega (arith, k.maps_size, k.few, side-small s)) (ℕ_discrete (index_place s' σ' j) place))
    where
      by : ((index_place s' σ' j ≡ place) × (index_at maps' s' σ' j ≡ v)) ⊎ (index_at maps' s' σ' j ≡ index_at maps s' σ' j)
          → Here s' σ' j ⊎ (index_at maps' s' σ' j ≡ index_at maps s' σ' j)
      by (inl p) =
          let class : j ≡ i = omega (arith, p.0, k.few) in
          let block : side_number s' * 32 + σ' ≡ side_number s * 32 + σ = omega (arith, p.0, class) in
          let side : side_number s' ≡ side_number s = omega (arith, block) in
          inl (record { side = side-is s' s side; symbol = omega (arith, block, side); class = class; is = p.1 })
      by (inr e) = inr e

  indexed-after : (s' : Side) (σ' j : ℕ) → σ' < 32 → j < 1024 → index_at maps' s' σ' j < indices counts' s'
  indexed-after s' σ' j b' hj = by (index-after s' σ' j b' hj)
    where
      by : Here s' σ' j ⊎ (index_at maps' s' σ' j ≡ index_at maps s' σ' j) → index_at maps' s' σ' j < indices counts' s'
      by (inl p) = rw (p.is, p.side) used
      by (inr e) = rw e (omega (arith, k.indexed s' σ' j b' hj, more s'))

  none_after : (s' : Side) (σ' j : ℕ) → σ' < 32 → j < 1024 → classes counts ≤ j → index_at maps' s' σ' j ≡ 0
  none_after s' σ' j b' hj l = by (index-after s' σ' j b' hj)
    where
      by : Here s' σ' j ⊎ (index_at maps' s' σ' j ≡ index_at maps s' σ' j) → index_at maps' s' σ' j ≡ 0
      by (inl p) = absurd (omega (arith, p.class))
      by (inr e) = e ∙ k.none_yet s' σ' j b' hj l

  alike-after : (s' : Side) (σ₁ σ₂ x y : ℕ) → σ₁ < 32 → σ₂ < 32 → x < classes counts → y < classes counts → 0 < index_at maps' s' σ₁ x
      → index_at maps' s' σ₁ x ≡ index_at maps' s' σ₂ y → (σ₁ ≡ σ₂) × Alike A store σ₁ s' x y
  alike-after s' σ₁ σ₂ x y b₁ b₂ hx hy pos e =
      by (index-after s' σ₁ x b₁ (omega (arith, k.few))) (index-after s' σ₂ y b₂ (omega (arith, k.few)))
    where
      by : Here s' σ₁ x ⊎ (index_at maps' s' σ₁ x ≡ index_at maps s' σ₁ x) → Here s' σ₂ y ⊎ (index_at maps' s' σ₂ y ≡ index_at maps s' σ₂ y)
          → (σ₁ ≡ σ₂) × Alike A store σ₁ s' x y
      by (inl p) (inl q) = (p.symbol ∙ sym q.symbol, rw (p.class, q.class) (λ τ. refl))
      by (inl p) (inr f) =
          let z = alike σ₂ y b₂ hy (sym p.is ∙ e ∙ f ∙ ap (λ (s : Side). index_at maps s σ₂ y) p.side) in
          rw (p.symbol, p.class, p.side) z
      by (inr f) (inl q) =
          let z = alike σ₁ x b₁ hx (sym q.is ∙ sym e ∙ f ∙ ap (λ (s : Side). index_at maps s σ₁ x) q.side) in
          let w : Alike A store σ₁ s i x = rw z.0 at z.1 in
          (sym z.0 ∙ sym q.symbol, rw (q.class, q.side) (alike-sym A store σ₁ s i x w))
      by (inr f) (inr g) = k.alike s' σ₁ σ₂ x y b₁ b₂ hx hy (rw f at pos) (sym f ∙ e ∙ g)

  right-after' : (n σ' l r : ℕ) → σ' < 32 → l < classes counts → r < classes counts
      → key_in (get_or cells n 0) ≡ key (index_at maps' Side.Left σ' l) (index_at maps' Side.Right σ' r)
      → Right A (classes counts) store σ' l r (word_in (get_or cells n 0))
  right-after' n σ' l r b' hl hr e =
      by (index-after Side.Left σ' l b' (omega (arith, k.few))) (index-after Side.Right σ' r b' (omega (arith, k.few)))
    where
      by : Here Side.Left σ' l ⊎ (index_at maps' Side.Left σ' l ≡ index_at maps Side.Left σ' l)
          → Here Side.Right σ' r ⊎ (index_at maps' Side.Right σ' r ≡ index_at maps Side.Right σ' r)
          → Right A (classes counts) store σ' l r (word_in (get_or cells n 0))
      by (inl p) (inl q) = absurd (omega (arith, ap side_number p.side, ap side_number q.side))
      by (inl p) (inr g) = rw (p.symbol, p.class) (as-left (sym p.side) n r hr (e ∙ rw (p.is, g, p.symbol)))
      by (inr f) (inl q) = rw (q.symbol, q.class) (as-right (sym q.side) n l hl (e ∙ rw (q.is, f, q.symbol)))
      by (inr f) (inr g) = k.right n σ' l r b' hl hr (e ∙ rw (f, g))

  index-set : CachedIn A counts' store maps' cells
  index-set =
      let n = same-classes in
      record {
        counts_size = size;
        store_size = k.store_size;
        maps_size = length-set maps place v ∙ k.maps_size;
        cells_size = k.cells_size;
        some = rw n k.some;
        few = rw n k.few;
        blank = k.blank;
        some_indices = λ s. omega (arith, more s, k.some_indices s);
        few_indices = few;
        indexed = indexed-after;
        none_yet = λ s' σ' j b' hj l. none_after s' σ' j b' hj (rw (← n) l);
        alike = λ s' σ₁ σ₂ x y b₁ b₂ hx hy. alike-after s' σ₁ σ₂ x y b₁ b₂ (rw (← n) hx) (rw (← n) hy);
        keyed = λ m x y pos small e.
            let z = k.keyed m x y pos small e in
            (z.0, omega (arith, z.1, more Side.Left), z.2, omega (arith, z.3, more Side.Right));
        right = λ m σ' l r b' hl hr e. rw n (right-after' m σ' l r b' (rw (← n) hl) (rw (← n) hr) e);
      }

-- that of a class that does the same
pub index-shared : (A : Automaton) (counts store maps cells : List ℕ) → CachedIn A counts store maps cells → (s : Side) (σ i j : ℕ) → σ < 32
    → i < classes counts → j < classes counts → 0 < index_at maps s σ j → Alike A store σ s j i
    → CachedIn A counts store (set maps (index_place s σ i) (index_at maps s σ j)) cells
index-shared A counts store maps cells k s σ i j b hi hj some same =
    index-set A counts counts store maps cells k s σ i (index_at maps s σ j) b hi k.counts_size refl (λ s. omega arith) k.few_indices some
    (k.indexed s σ j b (omega (arith, k.few)))
    (λ σ' m b' hm e.
    let z = k.alike s σ σ' j m b b' hj hm some e in
    (z.0, alike-trans A store σ s i j m (alike-sym A store σ s j i same) z.1))
    (λ is n r hr e. λ pos.
    let like : Alike A store σ Side.Left j i = rw is at same in
    let z = k.right n σ j r b hj hr (rw is at e) pos in
    (z.0, node_alike A store σ j i r r _ like (λ τ. refl) z.1))
    (λ is n l hl e. λ pos.
    let like : Alike A store σ Side.Right j i = rw is at same in
    let z = k.right n σ l j b hl hj (rw is at e) pos in
    (z.0, node_alike A store σ l l j i _ (λ τ. refl) like z.1))

-- the indices of a side are one more
pub record Indexed (counts counts' : List ℕ) (s : Side) : Type 0 where
  pub size : length counts' ≡ 6
  pub classes_are : classes counts' ≡ classes counts
  pub one_more : indices counts' s ≡ indices counts s + 1
  pub others : (s' : Side) → (s' ≡ s → ⊥) → indices counts' s' ≡ indices counts s'

side-dec : (s s' : Side) → Dec (s ≡ s')
side-dec Side.Left Side.Left = yes refl
side-dec Side.Left Side.Right = no (λ e. omega (arith, ap side_number e))
side-dec Side.Right Side.Left = no (λ e. omega (arith, ap side_number e))
side-dec Side.Right Side.Right = yes refl

-- a new index
pub index-new : (A : Automaton) (counts counts' store maps cells : List ℕ) → CachedIn A counts store maps cells → (s : Side) (σ i : ℕ) → σ < 32
    → i < classes counts → indices counts s < 65536 → Indexed counts counts' s
    → CachedIn A counts' store (set maps (index_place s σ i) (indices counts s)) cells
index-new A counts counts' store maps cells k s σ i b hi room counted =
    index-set A counts counts' store maps cells k s σ i (indices counts s) b hi counted.size counted.classes_are
    (λ s'. (grown s' (side-dec s' s)).0) (λ s'. (grown s' (side-dec s' s)).1) (k.some_indices s) (omega (arith, counted.one_more))
    (λ σ' m b' hm e. absurd (omega (arith, k.indexed s σ' m b' (omega (arith, k.few)))))
    (λ is n r hr e pos.
    let z = k.keyed n _ _ pos (omega (arith, k.indexed Side.Right σ r b (omega (arith, k.few)), k.few_indices Side.Right)) e in
    absurd (omega (arith, z.1, ap (indices counts) is)))
    (λ is n l hl e pos.
    let z = k.keyed n _ _ pos (omega (arith, room)) e in
    absurd (omega (arith, z.3, ap (indices counts) is)))
  where
    grown : (s' : Side) → Dec (s' ≡ s) → (indices counts s' ≤ indices counts' s') × (indices counts' s' ≤ 65536)
    grown s' (yes e) = rw e (omega (arith, counted.one_more), omega (arith, counted.one_more))
    grown s' (no n) = let e = counted.others s' n in (omega arith, omega (arith, k.few_indices s'))

pub index-counted : (counts : List ℕ) (s : Side) → length counts ≡ 6 → Indexed counts (set counts (1 + side_number s) (indices counts s + 1)) s
index-counted counts s e =
    let small = side-small s in
    record {
      size = length-set counts (1 + side_number s) (indices counts s + 1) ∙ e;
      classes_are = get_or-set_other counts (1 + side_number s) 0 (indices counts s + 1) 0 (λ e. omega arith);
      one_more = get_or-set_same counts (1 + side_number s) (indices counts s + 1) 0 (omega arith);
      others = λ s' n. get_or-set_other counts (1 + side_number s) (1 + side_number s') (indices counts s + 1) 0 (λ e. n (side-is s' s (omega (arith, e))));
    }
