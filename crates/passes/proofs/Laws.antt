-- What the words of the stack tell, after a node more; and where a pass begins and ends.
-- Assumes nothing.
use Prim.Native.Nat.{ℕ, suc, ◌+◌, ◌-◌, ◌<◌, ◌≤◌, max}
use native.Mathlib.Numerals.{add-one}
use native.Mathlib.Omega.{arith}
use mathlib.Core.Path.{◌≡◌, refl, sym, ap, ◌∙◌, subst}
use mathlib.Core.Bool.{true, false}
use mathlib.Core.List.{List, [], ◌∷◌, ◌++◌, append_assoc, append-nil}
use lib.ListN.{length, get_or, drop, length-drop, length-append}
use lib.Seq.{drop-length, drop-cons}
use Rattle.relation.specs.Sets.{member}
use Rattle.model.specs.Trees.{Tree, leaf, node, height, size}
use Rattle.model.specs.declared.Signature.{Signature}
use Rattle.nodes.specs.Preorder.{preorder, Shaped, Below, Writes}
use Rattle.nodes.proofs.Signatures.{over-shaped}
use Rattle.nodes.proofs.Standing.{size-preorder}
use Rattle.passes.specs.Told.{height_of, Words, Told, none, more}
use Rattle.passes.specs.Held.{Held}
use Rattle.passes.specs.Stacked.{Stacked, One, Parts}
use Rattle.passes.specs.declared.Stack.{Stack}

-- ---- words that tell something else, of trees within the last n nodes; the total stays

abbrev pub Becomes : (W W' : Words) (n : ℕ) → Type 0
Becomes W W' n = (s : List ℕ) (w : ℕ) (t : Tree) → length s + size t ≤ n → W s w t → W' s w t

becomes : (W W' : Words) (n : ℕ) → Becomes W W' n → {f : Tree → ℕ} {b total : ℕ} {s ws : List ℕ} → length s ≤ n → Told W f b s ws total → Told W' f b s ws total
becomes W W' n g l none = none
becomes W W' n g l (more {s = s} {w = w} t h high low x r) =
    let long = length-append (preorder t) s in
    let size_is = size-preorder t in
    more t h high low (g s w t (omega arith) x) (becomes W W' n g (omega arith) r)

-- ---- the words of two trees

pub record Two (W : Words) (f : Tree → ℕ) (b : ℕ) (s : List ℕ) (x y : ℕ) (ws : List ℕ) (total : ℕ) : Type 0 where
  pub l : Tree
  pub r : Tree
  pub rest : List ℕ
  pub total-rest : ℕ
  pub list : s ≡ preorder l ++ (preorder r ++ rest)
  pub shaped-l : Shaped b l
  pub shaped-r : Shaped b r
  pub high-l : height_of x ≡ height l
  pub high-r : height_of y ≡ height r
  pub tells_l : W (preorder r ++ rest) x l
  pub tells_r : W rest y r
  pub told : Told W f b rest ws total-rest
  pub total-is : total ≡ f l + (f r + total-rest)

two : {W : Words} {f : Tree → ℕ} {b : ℕ} {s : List ℕ} {x y : ℕ} {ws : List ℕ} {n : ℕ} → Told W f b s (x ∷ y ∷ ws) n → Two W f b s x y ws n
two (more l hl el low-l x (more {s = s} {n = n} r hr er low-r y t)) =
    record {
      l = l;
      r = r;
      rest = s;
      total-rest = n;
      list = refl;
      shaped-l = hl;
      shaped-r = hr;
      high-l = el;
      high-r = er;
      tells_l = x;
      tells_r = y;
      told = t;
      total-is = refl;
    }

-- ---- a node more

leaf-told : {W : Words} {f : Tree → ℕ} {b n : ℕ} {s ws : List ℕ} (σ v : ℕ) → member b σ ≡ false → height_of v ≡ 0 → W s v (leaf σ) → Told W f b s ws n
    → Told W f b (σ ∷ s) (v ∷ ws) (f (leaf σ) + n)
unfolding preorder Shaped
leaf-told σ v alone high x r = more (leaf σ) alone high (omega arith) x r

node-told : {W : Words} {f : Tree → ℕ} {b n : ℕ} {ws : List ℕ} (σ v : ℕ) (l r : Tree) (s rest : List ℕ) → s ≡ preorder l ++ (preorder r ++ rest) → member b σ ≡ true
    → Shaped b l → Shaped b r → height_of v ≡ max (height l) (height r) + 1 → height_of v ≤ 64 → W rest v (node σ l r) → Told W f b rest ws n
    → Told W f b (σ ∷ s) (v ∷ ws) (f (node σ l r) + n)
unfolding preorder Shaped
node-told σ v l r s rest e branch hl hr high low x told =
    rw (e, ← append_assoc (preorder l) (preorder r) rest) (more {w = v} (node σ l r) (branch, hl, hr) (omega arith) (omega arith) x told)

below_more : (n σ : ℕ) (s : List ℕ) → σ < n → Below n s → Below n (σ ∷ s)
unfolding Below
below_more n σ s l h = (l, h)

-- a leaf
pub leaf-on : (W W' : Words) {f : Tree → ℕ} {n : ℕ} (sg : Signature) (σ v : ℕ) (table s table' : List ℕ) (st st' : Stack) → Stacked W f sg table s st n
    → Becomes W W' (length s) → W' s v (leaf σ) → σ < sg.symbols → member sg.branches σ ≡ false → height_of v ≡ 0
    → ((ws : List ℕ) → Held table st ws → Held table' st' (v ∷ ws)) → Stacked W' f sg table' (σ ∷ s) st' (f (leaf σ) + n)
leaf-on W W' sg σ v table s table' st st' k g tells small alone high held =
    record {
      words = v ∷ k.words;
      held = held k.words k.held;
      told = leaf-told σ v alone high tells (becomes W W' (length s) g (omega arith) k.told);
      below = below_more sg.symbols σ s small k.below;
    }

-- where two words are, they are the two on top
pub record Top (W : Words) (f : Tree → ℕ) (sg : Signature) (table s : List ℕ) (st : Stack) (total : ℕ) : Type 0 where
  pub rest : List ℕ
  pub held : Held table st (st.first ∷ st.second ∷ rest)
  pub trees : Two W f sg.branches s st.first st.second rest total

pub top : {W : Words} {f : Tree → ℕ} {sg : Signature} {table s : List ℕ} {n : ℕ} (st : Stack) → Stacked W f sg table s st n → st.top + 1 < 128 → Top W f sg table s st n
top {table = table} st k few =
    let held = k.held in
    let long = held.size in
    let one = drop-cons table st.top 0 (omega arith) in
    let next = drop-cons table (suc st.top) 0 (omega arith) in
    let is : k.words ≡ get_or table st.top 0 ∷ get_or table (suc st.top) 0 ∷ drop (suc (suc st.top)) table = cc held.words in
    let x = held.first _ _ is in
    let y = held.second _ _ _ is in
    let on-top : k.words ≡ st.first ∷ st.second ∷ drop (suc (suc st.top)) table = cc in
    record { rest = drop (suc (suc st.top)) table; held = rw (← on-top) held; trees = two (rw (← on-top) k.told) }

-- a branch over the two trees on top
pub branch-on : (W W' : Words) {f : Tree → ℕ} {n : ℕ} (sg : Signature) (σ v h : ℕ) (table s table' : List ℕ) (st st' : Stack) (t : Top W f sg table s st n)
    → Below sg.symbols s → Becomes W W' (length t.trees.rest) → W' t.trees.rest v (node σ t.trees.l t.trees.r)
    → σ < sg.symbols → member sg.branches σ ≡ true → height_of v ≡ h → h ≡ max (height_of st.first) (height_of st.second) + 1 → h ≤ 64
    → ((x y : ℕ) (ws : List ℕ) → Held table st (x ∷ y ∷ ws) → Held table' st' (v ∷ ws))
    → Stacked W' f sg table' (σ ∷ s) st' (f (node σ t.trees.l t.trees.r) + t.trees.total-rest)
branch-on W W' sg σ v h table s table' st st' t below g tells small branch high over low held =
    let p = t.trees in
    let hl = p.high-l in
    let hr = p.high-r in
    record {
      words = v ∷ t.rest;
      held = held _ _ t.rest t.held;
      told =
          node-told σ v p.l p.r s p.rest p.list branch p.shaped-l p.shaped-r (omega arith) (omega arith) tells
          (becomes W W' (length p.rest) g (omega arith) p.told);
      below = below_more sg.symbols σ s small below;
    }

-- ---- where a pass begins

nothing-below : (n : ℕ) → Below n []
unfolding Below
nothing-below n = tt

-- with nothing on the stack
pub begun : (W : Words) (f : Tree → ℕ) (sg : Signature) (table s : List ℕ) → length table ≡ 128
    → Stacked W f sg table (drop (length s) s) (record { top = 128; first = 0; second = 0 }) 0
begun W f sg table s size_is =
    record {
      words = [];
      held = record {
        size = size_is;
        room = omega arith;
        words = rw (← size_is) (drop-length table);
        first = λ x l e. cc;
        second = λ x y l e. cc;
      };
      told = rw (drop-length s) none;
      below = rw (drop-length s) (nothing-below sg.symbols);
    }

-- a list from a node on: the node, and the list after it
pub from : (s : List ℕ) (i : ℕ) → 0 < i → i ≤ length s → drop (i - 1) s ≡ get_or s (i - 1) 0 ∷ drop i s
from s i some l =
    let back : i - 1 + 1 ≡ i = omega arith in
    drop-cons s (i - 1) 0 (omega arith) ∙ ap (λ (n : ℕ). get_or s (i - 1) 0 ∷ drop n s) (sym (add-one (i - 1)) ∙ back)

-- ---- where it ends

empty : (l : List ℕ) → length l ≡ 0 → l ≡ []
empty [] e = refl
empty (x ∷ l) e = absurd (omega arith)

-- no word, no tree, and a total of 0
nothing : {W : Words} {f : Tree → ℕ} {b n : ℕ} {s ws : List ℕ} → Told W f b s ws n → ws ≡ [] → (s ≡ []) × (n ≡ 0)
nothing none e = (refl, refl)
nothing (more t h high low x r) e = (cc, cc)

writes-tree : (sg : Signature) (s : List ℕ) (t : Tree) → s ≡ preorder t → Shaped sg.branches t → Below sg.symbols s → height t ≤ 64 → Writes sg s t
writes-tree sg s t e shaped below low = record { text = e; over = over-shaped sg t shaped (rw e at below); low = low }

-- one word, of the whole list
one-by : (W : Words) {f : Tree → ℕ} {n : ℕ} (sg : Signature) (s ws : List ℕ) (first : ℕ) → Told W f sg.branches s ws n → length ws ≡ 1
    → ((x : ℕ) (l : List ℕ) → ws ≡ x ∷ l → first ≡ x) → Below sg.symbols s → One W f sg s first n
one-by W sg s ws first none e is below = absurd (omega arith)
one-by W sg s ws first (more {s = rest} {ws = others} {w = w} t h high low x r) e is below =
    let ends = nothing r (empty others (omega arith)) in
    let text : preorder t ++ rest ≡ preorder t = ap (λ (l : List ℕ). preorder t ++ l) ends.0 ∙ append-nil (preorder t) in
    record {
      tree = t;
      writes = writes-tree sg _ t text h below low;
      tells = subst (λ (l : List ℕ). W l first t) ends.0 (subst (λ (v : ℕ). W rest v t) (sym (is w others refl)) x);
      total = omega (arith, ends.1);
    }

module _ {W : Words} {f : Tree → ℕ} {sg : Signature} {table s : List ℕ} {n : ℕ} (st : Stack) (k : Stacked W f sg table s st n) where
  words_count : length k.words ≡ 128 - st.top
  words_count = let size_is = k.held.size in sym (ap length k.held.words) ∙ length-drop st.top table ∙ ap (λ (n : ℕ). n - st.top) size_is

  pub none-ended : st.top ≡ 128 → (s ≡ []) × (n ≡ 0)
  none-ended e = nothing k.told (empty k.words (omega (arith, words_count)))

  pub one_ended : st.top ≡ 127 → One W f sg s st.first n
  one_ended e = one-by W sg s k.words st.first k.told (omega (arith, words_count)) k.held.first k.below

-- a leaf that is the whole list
leaf-writes : (sg : Signature) (σ : ℕ) (s : List ℕ) → s ≡ [] → σ < sg.symbols → member sg.branches σ ≡ false → Below sg.symbols s → Writes sg (σ ∷ s) (leaf σ)
unfolding preorder Shaped
leaf-writes sg σ s e small alone below = writes-tree sg (σ ∷ s) (leaf σ) (ap (λ (l : List ℕ). σ ∷ l) e) alone (below_more sg.symbols σ s small below) (omega arith)

pub leaf-ended : {W : Words} {f : Tree → ℕ} {n : ℕ} (sg : Signature) (σ : ℕ) (table s : List ℕ) (st : Stack) → Stacked W f sg table s st n → st.top ≡ 128
    → σ < sg.symbols → member sg.branches σ ≡ false → Writes sg (σ ∷ s) (leaf σ) × (n ≡ 0)
leaf-ended sg σ table s st k e small alone = let none = none-ended st k e in (leaf-writes sg σ s none.0 small alone k.below, none.1)

written : (σ : ℕ) (l r : Tree) (s rest : List ℕ) → s ≡ preorder l ++ (preorder r ++ rest) → rest ≡ [] → σ ∷ s ≡ preorder (node σ l r)
unfolding preorder
written σ l r s rest e f = rw (e, f, append-nil)

shaped-node : (b σ : ℕ) (l r : Tree) → member b σ ≡ true → Shaped b l → Shaped b r → Shaped b (node σ l r)
unfolding Shaped
shaped-node b σ l r h x y = (h, x, y)

-- a branch over all the trees there are
pub parts-ended : {W : Words} {f : Tree → ℕ} {n : ℕ} (sg : Signature) (σ h : ℕ) (table s : List ℕ) (st : Stack) → Stacked W f sg table s st n → st.top ≡ 126
    → σ < sg.symbols → member sg.branches σ ≡ true → h ≡ max (height_of st.first) (height_of st.second) + 1 → h ≤ 64
    → Parts W f sg (σ ∷ s) st.first st.second n
parts-ended {W} sg σ h table s st k e small branch over low =
    let t = top st k (omega arith) in
    let size_is = t.held.size in
    let long : length (drop st.top table) ≡ suc (suc (length t.rest)) = ap length t.held.words in
    let p = t.trees in
    let ends = nothing p.told (empty t.rest (omega (arith, length-drop st.top table))) in
    let hl = p.high-l in
    let hr = p.high-r in
    record {
      σ = σ;
      l = p.l;
      r = p.r;
      writes =
          writes-tree sg (σ ∷ s) (node σ p.l p.r) (written σ p.l p.r s p.rest p.list ends.0)
          (shaped-node sg.branches σ p.l p.r branch p.shaped-l p.shaped-r) (below_more sg.symbols σ s small k.below) (omega arith);
      tells_l = subst (λ (l : List ℕ). W (preorder p.r ++ l) st.first p.l) ends.0 p.tells_l;
      tells_r = subst (λ (l : List ℕ). W l st.second p.r) ends.0 p.tells_r;
      total = omega (arith, p.total-is, ends.1);
    }
