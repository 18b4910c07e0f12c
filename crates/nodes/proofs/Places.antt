-- The places of lines 11 and 12 in the table's words: "first node over, or k", and "first node 65 steps below the root".
-- Assumes nothing.
use Rattle.std.proofs.Common.{Option, Some, Ok, Err}
use Prim.Native.Nat.{ℕ, zero, suc, ◌+◌, ◌-◌, ◌≤◌, ◌<◌}
use native.Mathlib.Omega.{arith}
use mathlib.Core.Path.{◌≡◌, refl, sym, ap, ◌∙◌}
use mathlib.Core.Bool.{Bool, true, false}
use mathlib.Core.Logic.{◌↔◌, ◌⊎◌, inl, inr, ⊎_elim}
use mathlib.Core.List.{List, [], ◌∷◌, ◌++◌, append_assoc, append-nil}
use lib.ListN.{length, get_or, drop, length-append}
use lib.Seq.{drop-drop, drop_at}
use lib.Dec.{eqb}
use borrow.Author.Tests.{eq-eqb, ne_eqb}
use Rattle.blocks.specs.Search.{lowest_from, lowest}
use Rattle.blocks.proofs.Laws.{lowest-passed, lowest-hit, lowest-none}
use Rattle.relation.specs.Sets.{member}
use Rattle.model.specs.Trees.{Tree, leaf, node, size}
use Rattle.refusal.specs.Checks.{refused, refuse_at, Check}
use Rattle.refusal.specs.declared.Fault.{Fault}
use Rattle.refusal.proofs.Passed.{clash}
use Rattle.nodes.specs.Preorder.{preorder, Shaped}
use Rattle.nodes.specs.Nodes.{opened, parts_from, shape_check, Depth, Next, Deep, onward, depth_of, refuse_deep, height_check}
use Rattle.nodes.proofs.Standing.{size-preorder}
use Rattle.blocks.proofs.Stores.{first}
use Rattle.nodes.proofs.Laws.{Planted, none, more, leaf-planted, node-planted, parts-tree, one, low}

-- ---- line 11

-- a tree is written by the first n nodes of the list: it closes before node n
pub record Closes (b : ℕ) (s : List ℕ) (n : ℕ) : Type 0 where
  pub tree : Tree
  pub rest : List ℕ
  pub shaped : Shaped b tree
  pub text : s ≡ preorder tree ++ rest
  pub nodes : n ≡ size tree

-- n trees begin the list, or line 11 comes to its end
data Ending (b n i : ℕ) (s : List ℕ) : Type 0 where
  closed : (p rest : List ℕ) → Planted b n p → s ≡ p ++ rest → Ending b n i s
  short : ((p rest : List ℕ) → Planted b n p → s ≡ p ++ rest → ⊥) → parts_from b n i s ≡ refused Fault.Shape 1 (i + length s) → Ending b n i s

-- what n + 1 trees leave after their first symbol
after_first : (b σ n : ℕ) (s p rest : List ℕ) → Planted b (suc n) p → σ ∷ s ≡ p ++ rest →
    (q : List ℕ) × Planted b (opened (member b σ) n) q × (s ≡ q ++ rest)
unfolding preorder Shaped
after_first b σ n s p rest (more {s = q} (leaf τ) h k) e =
    let same : σ ≡ τ = cc in
    (q, rw (same, h) k, (cc))
after_first b σ n s p rest (more {s = q} (node τ l r) h k) e =
    let same : σ ≡ τ = cc in
    let two : Planted b (suc (suc n)) (preorder l ++ (preorder r ++ q)) = more l h.1 (more r h.2 k) in
    let tail : s ≡ preorder l ++ preorder r ++ q ++ rest = cc in
    (preorder l ++ (preorder r ++ q), rw (same, h.0) two, tail ∙ simp append_assoc)

ending : (b n i : ℕ) (s : List ℕ) → Ending b n i s
unfolding parts_from preorder
ending b zero i [] = closed [] [] none refl
ending b (suc n) i [] = short empty (ap (refused Fault.Shape 1) (omega arith))
  where
    empty : (p rest : List ℕ) → Planted b (suc n) p → [] ≡ p ++ rest → ⊥
    empty p rest (more (leaf σ) h k) e = clash (cc)
    empty p rest (more (node σ l r) h k) e = clash (cc)
ending b zero i (σ ∷ s) = closed [] (σ ∷ s) none refl
ending b (suc n) i (σ ∷ s) = go (ending b (opened (member b σ) n) (i + 1) s)
  where
    planted : (t : Bool) → member b σ ≡ t → (p : List ℕ) → Planted b (opened t n) p → Planted b (suc n) (σ ∷ p)
    planted true h p k = node-planted b σ h k
    planted false h p k = leaf-planted b σ h k

    go : Ending b (opened (member b σ) n) (i + 1) s → Ending b (suc n) i (σ ∷ s)
    go (closed p rest k e) = closed (σ ∷ p) rest (planted (member b σ) refl p k) (ap (λ (l : List ℕ). σ ∷ l) e)
    go (short f e) =
        short (λ p rest k eq. let a = after_first b σ n s p rest k eq in f a.0 rest a.1 a.2)
        (e ∙ ap (refused Fault.Shape 1) (omega arith))

closes : (b : ℕ) (s p rest : List ℕ) → Planted b 1 p → s ≡ p ++ rest → (n : ℕ) × Closes b s n
closes b s p rest k e =
    let o = one k in
    (size o.0, record { tree = o.0; rest = rest; shaped = o.2; text = rw (← o.1) e; nodes = refl })

alone : (b : ℕ) (t : Tree) → Shaped b t → Planted b 1 (preorder t)
alone b t h = rw (← append-nil (preorder t)) (more t h none)

-- where a tree closes, the rest of the list decides
after-tree : (b : ℕ) (s : List ℕ) (t : Tree) (rest : List ℕ) → Shaped b t → s ≡ preorder t ++ rest → shape_check b s ≡ parts_from b 0 (size t) rest
unfolding shape_check
after-tree b s t rest h e = rw e (parts-tree b 0 0 t rest h ∙ ap (λ (i : ℕ). parts_from b 0 i rest) (omega arith))

place_of : Check → ℕ
place_of (Ok tt) = 0
place_of (Err r) = r.place

same_place : (i j : ℕ) → refused Fault.Shape 1 i ≡ refused Fault.Shape 1 j → i ≡ j
unfolding place_of
same_place i j e = ap place_of e

-- where a tree closes, line 11 refuses exactly the node after it
over : (b : ℕ) (s : List ℕ) (n i : ℕ) → Closes b s n → (shape_check b s ≡ refused Fault.Shape 1 i) ↔ ((i ≡ n) × (n < length s))
unfolding parts_from
over b s n i c = go c.rest c.text
  where
    go : (rest : List ℕ) → s ≡ preorder c.tree ++ rest → (shape_check b s ≡ refused Fault.Shape 1 i) ↔ ((i ≡ n) × (n < length s))
    go [] e =
        let check = after-tree b s c.tree [] c.shaped e in
        let size = ap length e ∙ length-append (preorder c.tree) [] in
        ((λ f. clash (cc)), λ h. absurd (omega (arith, h.1, size, size-preorder c.tree, c.nodes)))
    go (σ ∷ rest) e =
        let check = after-tree b s c.tree (σ ∷ rest) c.shaped e in
        let size = ap length e ∙ length-append (preorder c.tree) (σ ∷ rest) in
        let inside : n < length s = omega (arith, size, size-preorder c.tree, c.nodes) in
        ((λ f. (same_place i _ (sym f ∙ check) ∙ sym c.nodes, inside)), λ h. check ∙ ap (refused Fault.Shape 1) (sym (h.0 ∙ c.nodes)))

-- line 11 refuses at the first node after a tree that closes before the end; where none closes, at the number of nodes
pub shape-place : (b : ℕ) (s : List ℕ) (i : ℕ) →
    (shape_check b s ≡ refused Fault.Shape 1 i) ↔ ((Closes b s i × (i < length s)) ⊎ (((n : ℕ) → Closes b s n → ⊥) × (i ≡ length s)))
unfolding shape_check
shape-place b s i = go (ending b 1 0 s)
  where
    go : Ending b 1 0 s → (shape_check b s ≡ refused Fault.Shape 1 i) ↔ ((Closes b s i × (i < length s)) ⊎ (((n : ℕ) → Closes b s n → ⊥) × (i ≡ length s)))
    go (closed p rest k e) =
        let c = closes b s p rest k e in (
          (λ q. let h = (over b s c.0 i c.1).0 q in inl (rw h.0 c.1, omega (arith, h.0, h.1))),
          ⊎_elim (λ d. (over b s i i d.0).1 (refl, d.1)) (λ f. absurd (f.0 c.0 c.1)),
        )
    go (short f e) =
        let never : (n : ℕ) → Closes b s n → ⊥ = λ n c. f (preorder c.tree) c.rest (alone b c.tree c.shaped) c.text in (
          (λ q. inr (never, same_place i (0 + length s) (sym q ∙ e) ∙ omega arith)),
          ⊎_elim (λ d. absurd (never i d.0)) (λ h. e ∙ ap (refused Fault.Shape 1) (omega (arith, h.1))),
        )

-- ---- line 12

-- how many steps below the root each node is, in preorder, where the tree's own root is d below
unfoldable pub depths : (d : ℕ) → Tree → List ℕ
depths d (leaf σ) = d ∷ []
depths d (node σ l r) = d ∷ (depths (suc d) l ++ depths (suc d) r)

-- node i is 65 steps below the root
abbrev pub too_deep : Tree → ℕ → Bool
too_deep t i = eqb (get_or (depths 0 t) i 0) 65

size-depths : (d : ℕ) (t : Tree) → length (depths d t) ≡ size t
unfolding depths
size-depths d (leaf σ) = refl
size-depths d (node σ l r) =
    ap suc (length-append (depths (suc d) l) (depths (suc d) r) ∙ cc (size-depths (suc d) l, size-depths (suc d) r))

module _ (ds : List ℕ) where
  is65 : ℕ → Bool
  is65 i = eqb (get_or ds i 0) 65

  -- the search for 65 among the numbers ds, after a walk over a part of them
  resume : Depth → Option ℕ
  resume (Deep i) = Some i
  resume (Next n) = lowest_from is65 n (length ds - n)

  -- the left part's walk stops the search, or leaves it where the right part's begins
  carry : (d i : ℕ) (l : Tree) (x y : Depth) → depth_of d i l ≡ x →
      lowest_from is65 (i + size l) (length ds - (i + size l)) ≡ resume y → resume x ≡ resume (onward x y)
  unfolding resume
  carry d i l (Deep j) y e later = refl
  carry d i l (Next n) y e later = rw (low d i n l e).1 later

  -- the walk over a tree whose depths begin at i is the search over them
  walk-searches : (e d i : ℕ) (t : Tree) (rest : List ℕ) → e + d ≡ 65 → drop i ds ≡ depths e t ++ rest →
      lowest_from is65 i (length ds - i) ≡ resume (depth_of d i t)
  unfolding depths depth_of resume is65
  walk-searches e zero i (leaf σ) rest h q =
      let f = first ds i e rest q in
      lowest-hit is65 i (length ds) f.0 (eq-eqb (get_or ds i 0) 65 (omega (arith, f.1)))
  walk-searches e zero i (node σ l r) rest h q =
      let f = first ds i e (depths (suc e) l ++ depths (suc e) r ++ rest) q in
      lowest-hit is65 i (length ds) f.0 (eq-eqb (get_or ds i 0) 65 (omega (arith, f.1)))
  walk-searches e (suc d) i (leaf σ) rest h q =
      let f = first ds i e rest q in
      lowest-passed is65 i (length ds) f.0 (ne_eqb (get_or ds i 0) 65 (λ p. omega (arith, f.1)))
  walk-searches e (suc d) i (node σ l r) rest h q =
      let f = first ds i e (depths (suc e) l ++ depths (suc e) r ++ rest) q in
      let g : drop (i + 1) ds ≡ depths (suc e) l ++ (depths (suc e) r ++ rest) = f.2 ∙ simp append_assoc in
      let k : drop (i + 1 + size l) ds ≡ depths (suc e) r ++ rest =
      sym (drop-drop (size l) (i + 1) ds) ∙ ap (drop (size l)) g ∙ drop_at (depths (suc e) l) (depths (suc e) r ++ rest) (size l) (size-depths (suc e) l) in
      lowest-passed is65 i (length ds) f.0 (ne_eqb (get_or ds i 0) 65 (λ p. omega (arith, f.1)))
      ∙ walk-searches (suc e) d (i + 1) l (depths (suc e) r ++ rest) (omega arith) g
      ∙ carry d (i + 1) l (depth_of d (i + 1) l) (depth_of d (i + 1 + size l) r) refl
      (walk-searches (suc e) d (i + 1 + size l) r rest (omega arith) k)

  -- after a walk that reaches the end nothing is found
  reached : (x : Depth) → ((n : ℕ) → x ≡ Next n → length ds ≤ n) → refuse_deep x ≡ refuse_at Fault.Height 1 (resume x)
  unfolding resume
  reached (Deep i) h = refl
  reached (Next n) h = rw (lowest-none is65 n (length ds) (h n refl))

-- line 12 refuses at the first node, in preorder, that is 65 steps below the root
pub height-place : (t : Tree) → height_check t ≡ refuse_at Fault.Height 1 (lowest (too_deep t) (size t))
unfolding height_check is65
height-place t =
    let ds = depths 0 t in
    let size = size-depths 0 t in
    reached ds (depth_of 65 0 t) (λ n e. omega (arith, (low 65 0 n t e).1, size))
    ∙ sym (ap (refuse_at Fault.Height 1) (ap (λ (n : ℕ). lowest_from (is65 ds) 0 n) (omega (arith, size)) ∙ walk-searches ds 0 65 0 t [] refl (sym (append-nil ds))))
