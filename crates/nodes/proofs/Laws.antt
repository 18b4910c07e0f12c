-- A list passes lines 10 to 12 exactly where it writes a tree over the signature no higher than 64, and that tree is the one that is read.
-- Assumes nothing.
use Rattle.std.proofs.Common.{Ok}
use Prim.Native.Nat.{ℕ, zero, suc, ◌+◌, ◌<◌}
use native.Mathlib.Omega.{arith}
use mathlib.Core.Path.{◌≡◌, refl, sym, ap, ◌∙◌}
use mathlib.Core.Bool.{Bool, true, false}
use mathlib.Core.Logic.{◌↔◌}
use mathlib.Core.List.{List, [], ◌∷◌, ◌++◌, append_assoc, append-nil}
use lib.ListN.{length, get_or}
use borrow.Author.Tests.{lt-leb, leb-false}
use Rattle.blocks.specs.Search.{lowest}
use Rattle.blocks.proofs.Laws.{lowest-nothing, find-nothing}
use Rattle.relation.specs.Sets.{member}
use Rattle.model.specs.Trees.{Tree, leaf, node, height, size}
use Rattle.model.specs.declared.Signature.{Signature}
use Rattle.refusal.specs.Checks.{◌and_then◌}
use Rattle.refusal.specs.declared.Fault.{Fault}
use Rattle.refusal.proofs.Passed.{clash, both-passed, at-passed}
use Rattle.nodes.specs.Preorder.{preorder, Writes, Shaped, Below, Stands}
use Rattle.nodes.specs.Nodes.{no_symbol, symbols_check, opened, parts_from, shape_check, forest, first_tree, tree_of, Depth, Next, Deep, onward, depth_of, refuse_deep, height_check, nodes_check}
use Rattle.nodes.proofs.Signatures.{shaped-over, over-shaped}
use Rattle.nodes.proofs.Standing.{forest-preorder, stands}

-- ---- line 10 passes exactly where each symbol is below the number of symbols

below_each : (m : ℕ) (s : List ℕ) → ((i : ℕ) → i < length s → get_or s i 0 < m) → Below m s
unfolding Below
below_each m [] h = tt
below_each m (σ ∷ s) h = (h 0 (omega arith), below_each m s (λ i l. h (suc i) (omega arith)))

each_below : (m : ℕ) (s : List ℕ) → Below m s → (i : ℕ) → i < length s → get_or s i 0 < m
unfolding Below
each_below m [] h i l = absurd (omega arith)
each_below m (σ ∷ s) h zero l = h.0
each_below m (σ ∷ s) h (suc i) l = each_below m s h.1 i (omega arith)

pub below : (sg : Signature) (s : List ℕ) → (symbols_check sg s ≡ Ok tt) ↔ Below sg.symbols s
unfolding symbols_check no_symbol
below sg s = (
  (λ e.
      let none = at-passed (lowest (no_symbol sg s) (length s)) Fault.Symbol 1 e in
      below_each sg.symbols s (λ i l. leb-false _ _ (lowest-nothing (no_symbol sg s) 0 (length s) none i (omega arith) (omega arith)))),
  (λ h. rw (find-nothing (no_symbol sg s) 0 (length s) (λ i lo hi. lt-leb _ _ (each_below sg.symbols s h i (omega arith))))),
)

-- ---- line 11 passes exactly where the list writes as many trees as parts are open

-- s writes n trees, one after another
pub data Planted (b : ℕ) : (n : ℕ) → List ℕ → Type 0 where
  none : Planted b 0 []
  more : {n : ℕ} {s : List ℕ} (t : Tree) → Shaped b t → Planted b n s → Planted b (suc n) (preorder t ++ s)

pub leaf-planted : (b σ : ℕ) {n : ℕ} {s : List ℕ} → member b σ ≡ false → Planted b n s → Planted b (suc n) (σ ∷ s)
unfolding preorder Shaped
leaf-planted b σ h p = more (leaf σ) h p

pub node-planted : (b σ : ℕ) {n : ℕ} {s : List ℕ} → member b σ ≡ true → Planted b (suc (suc n)) s → Planted b (suc n) (σ ∷ s)
unfolding preorder Shaped
node-planted b σ h (more l hl (more {s = s} r hr p)) =
    rw (← append_assoc (preorder l) (preorder r) s) (more (node σ l r) (h, hl, hr) p)

planted : (b n i : ℕ) (s : List ℕ) → parts_from b n i s ≡ Ok tt → Planted b n s
unfolding parts_from
planted b zero i [] e = none
planted b (suc n) i [] e = clash (cc)
planted b zero i (σ ∷ s) e = clash (cc)
planted b (suc n) i (σ ∷ s) e = go (member b σ) refl (planted b (opened (member b σ) n) (i + 1) s e)
  where
    go : (t : Bool) → member b σ ≡ t → Planted b (opened t n) s → Planted b (suc n) (σ ∷ s)
    go true h p = node-planted b σ h p
    go false h p = leaf-planted b σ h p

-- a tree closes one part
pub parts-tree : (b n i : ℕ) (t : Tree) (s : List ℕ) → Shaped b t → parts_from b (suc n) i (preorder t ++ s) ≡ parts_from b n (i + size t) s
unfolding parts_from preorder Shaped
parts-tree b n i (leaf σ) s h = rw (parts_from, h)
parts-tree b n i (node σ l r) s h =
    let e : parts_from b (suc (suc n)) (i + 1) ((preorder l ++ preorder r) ++ s) ≡ parts_from b n (i + 1 + size l + size r) s =
    rw append_assoc (parts-tree b (suc n) (i + 1) l (preorder r ++ s) h.1 ∙ parts-tree b n (i + 1 + size l) r s h.2) in
    ap (λ (t : Bool). parts_from b (opened t n) (i + 1) ((preorder l ++ preorder r) ++ s)) h.0 ∙ e
    ∙ ap (λ (j : ℕ). parts_from b n j s) (omega arith)

pub one : {b : ℕ} {s : List ℕ} → Planted b 1 s → (t : Tree) × (s ≡ preorder t) × Shaped b t
one (more t h none) = (t, append-nil (preorder t), h)

tree-of : (b : ℕ) (t : Tree) (s : List ℕ) → Shaped b t → s ≡ preorder t → tree_of b s ≡ t
unfolding tree_of
tree-of b t s h e =
    ap (λ (x : List ℕ). first_tree (forest b x)) (e ∙ sym (append-nil (preorder t))) ∙ ap first_tree (forest-preorder b t [] h)

-- a list that passes writes the tree that is read
closed : (b : ℕ) (s : List ℕ) → shape_check b s ≡ Ok tt → (s ≡ preorder (tree_of b s)) × Shaped b (tree_of b s)
unfolding shape_check
closed b s e =
    let o = one (planted b 1 0 s e) in
    rw (tree-of b o.0 s o.2 o.1) (o.1, o.2)

-- and that tree stands at the first node
pub root : (b : ℕ) (s : List ℕ) → shape_check b s ≡ Ok tt → Stands b s 0 (tree_of b s)
root b s e =
    let h = closed b s e in
    stands b s 0 (tree_of b s) [] h.1 (h.0 ∙ sym (append-nil (preorder (tree_of b s))))

-- ---- line 12 passes exactly where no node is 65 steps below the root

onward-next : (x y : Depth) (n : ℕ) → onward x y ≡ Next n → ((k : ℕ) × (x ≡ Next k)) × (y ≡ Next n)
onward-next (Deep i) y n e = clash (cc)
onward-next (Next k) y n e = ((k, refl), e)

pub low : (d i n : ℕ) (t : Tree) → depth_of d i t ≡ Next n → (height t < d) × (n ≡ i + size t)
unfolding depth_of
low zero i n t e = clash (cc)
low (suc d) i n (leaf σ) e = (omega arith, (cc))
low (suc d) i n (node σ l r) e =
    let both = onward-next _ _ n e in
    let hl = low d (i + 1) both.0.0 l both.0.1 in
    let hr = low d (i + 1 + size l) n r both.1 in
    (omega arith, omega arith)

pub low-next : (d i : ℕ) (t : Tree) → height t < d → depth_of d i t ≡ Next (i + size t)
unfolding depth_of
low-next zero i t h = absurd (omega arith)
low-next (suc d) i (leaf σ) h = refl
low-next (suc d) i (node σ l r) h =
    rw (low-next d (i + 1) l (omega arith), low-next d (i + 1 + size l) r (omega arith)) (ap Next (omega arith))

deep-passed : (x : Depth) → refuse_deep x ≡ Ok tt → (n : ℕ) × (x ≡ Next n)
deep-passed (Deep i) e = clash (cc)
deep-passed (Next n) e = (n, refl)

-- ---- lines 10 to 12

pub record NodesPassed (sg : Signature) (s : List ℕ) : Type 0 where
  pub symbols : symbols_check sg s ≡ Ok tt
  pub shape : shape_check sg.branches s ≡ Ok tt
  pub height : height_check (tree_of sg.branches s) ≡ Ok tt

nodes-passed : (sg : Signature) (s : List ℕ) → nodes_check sg s ≡ Ok tt → NodesPassed sg s
unfolding nodes_check
nodes-passed sg s e =
    let b = sg.branches in
    let first = both-passed (symbols_check sg s) (shape_check b s and_then height_check (tree_of b s)) e in
    let later = both-passed (shape_check b s) (height_check (tree_of b s)) first.1 in
    record { symbols = first.0; shape = later.0; height = later.1 }

-- a list that passes writes the tree that is read
pub writes : (sg : Signature) (s : List ℕ) → nodes_check sg s ≡ Ok tt → Writes sg s (tree_of sg.branches s)
unfolding height_check
writes sg s e =
    let passed = nodes-passed sg s e in
    let tree = closed sg.branches s passed.shape in
    let depth = deep-passed _ passed.height in
    let h = low 65 0 depth.0 (tree_of sg.branches s) depth.1 in
    record {
      text = tree.0;
      over = over-shaped sg _ tree.1 (rw (← tree.0) ((below sg s).0 passed.symbols));
      low = omega arith;
    }

-- a list that writes a tree passes, and that tree is read
passes : (sg : Signature) (s : List ℕ) (t : Tree) → Writes sg s t → (nodes_check sg s ≡ Ok tt) × (tree_of sg.branches s ≡ t)
unfolding nodes_check shape_check height_check parts_from
passes sg s t h =
    let b = sg.branches in
    let parts = shaped-over sg t h.over in
    let same : tree_of b s ≡ t = tree-of b t s parts.0 h.text in
    let symbols : symbols_check sg s ≡ Ok tt = (below sg s).1 (rw h.text parts.1) in
    let shape : parts_from b 1 0 s ≡ Ok tt = rw (h.text, ← append-nil (preorder t)) (parts-tree b 0 0 t [] parts.0) in
    (rw (symbols, shape, same, low-next 65 0 t (omega (arith, h.low))), same)

-- a list passes and the tree t is read exactly where the list writes t
pub nodes-pass : (sg : Signature) (s : List ℕ) (t : Tree) →
    ((nodes_check sg s ≡ Ok tt) × (tree_of sg.branches s ≡ t)) ↔ Writes sg s t
nodes-pass sg s t = ((λ e. rw e.1 at (writes sg s e.0)), passes sg s t)

-- so a list writes one tree at most
pub writes_one : (sg : Signature) (s : List ℕ) (t u : Tree) → Writes sg s t → Writes sg s u → t ≡ u
writes_one sg s t u h k = sym (passes sg s t h).1 ∙ (passes sg s u k).1

-- the tree that is read stands at the first node
pub read-stands : (sg : Signature) (s : List ℕ) → nodes_check sg s ≡ Ok tt → Stands sg.branches s 0 (tree_of sg.branches s)
read-stands sg s e = root sg.branches s (nodes-passed sg s e).shape
