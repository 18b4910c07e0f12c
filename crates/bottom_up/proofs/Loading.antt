-- The stack, the sum and the cache after a leaf, and after a branch.
-- Assumes nothing.
use Prim.Native.Nat.{ℕ, ◌+◌, ◌<◌, ◌≤◌, max}
use native.Mathlib.Decide.{dec_lt, ℕ_discrete}
use native.Mathlib.Omega.{arith}
use mathlib.Core.Path.{◌≡◌, refl, sym, ap₂, ◌∙◌}
use mathlib.Core.Bool.{true, false}
use mathlib.Core.List.{List, [], ◌∷◌}
use lib.ListN.{length, get_or, set}
use lib.Seq.{get_or-set_same, get_or-set_other, set_out}
use Rattle.relation.specs.Rows.{no_pairs}
use Rattle.relation.specs.Sets.{member}
use Rattle.model.specs.Trees.{Tree, leaf, node}
use Rattle.model.specs.declared.Side.{Side}
use Rattle.model.specs.declared.Place.{Place}
use Rattle.model.specs.declared.Signature.{Signature}
use Rattle.algorithms.specs.Automaton.{Automaton, Proper}
use Rattle.algorithms.specs.Overloops.{overloops, node_overloops}
use Rattle.algorithms.specs.Growth.{node_growth, own_growth, growths}
use Rattle.algorithms.proofs.Grown.{growths-own, growths-leaf}
use Rattle.overloops.proofs.Laws.{leaf-formed, leaf-grown}
use Rattle.class_tables.specs.Classes.{rows_of, id_of, growth_in, TellsWord, Node, Same}
use Rattle.class_tables.specs.Cache.{Right, classes, CachedIn, After, AfterCall}
use Rattle.class_tables.specs.declared.Cache.{Cache}
use Rattle.class_tables.proofs.Laws.{node-tells}
use Rattle.passes.specs.Told.{height_of, low_of}
use Rattle.passes.specs.Held.{Held}
use Rattle.passes.specs.declared.Stack.{Stack}
use Rattle.passes.proofs.Laws as passes
use Rattle.passes.proofs.Laws.{Becomes}
use Rattle.bottom_up.specs.Told.{Classed, below_growths}
use Rattle.bottom_up.specs.Steps.{Leafed, Loaded}

-- classes that stay tell what they told
same-tells : (A : Automaton) (n n' : ℕ) (store store' : List ℕ) → Same n store store' → n ≤ n' → (w : ℕ) (t : Tree)
    → Classed A n store [] w t → Classed A n' store' [] w t
same-tells A n n' store store' same l w t x = (omega (arith, x.0), (λ side. same (id_of w) side x.0 ∙ x.1.0 side, x.1.1))

same_class : (A : Automaton) (n n' k : ℕ) (store store' : List ℕ) → Same n store store' → n ≤ n' → Becomes (Classed A n store) (Classed A n' store') k
same_class A n n' k store store' same l s w t b x = same-tells A n n' store store' same l w t x

-- so do the words of leaves
leaf-stays : (A : Automaton) (n n' : ℕ) (store store' : List ℕ) → Same n store store' → n ≤ n' → 0 < n → (σ w : ℕ) → Right A n store σ 0 0 w
    → Right A n' store' σ 0 0 w
leaf-stays A n n' store store' same l some σ w h above =
    let k = h above in
    let left = sym (same 0 Side.Left some) in
    let right = sym (same 0 Side.Right some) in (
      omega (arith, k.0),
      record {
        rows = λ s. same (id_of w) s k.0 ∙ k.1.rows s ∙ ap₂ (node_overloops A (Place.Child s) σ) left right;
        growth = λ s. k.1.growth s ∙ ap₂ (node_growth A (Place.Child s) σ) left right;
      },
    )

pub leaves-stay : (A : Automaton) (counts store counts' store' maps' cells' leaves : List ℕ) → After A counts store counts' store' maps' cells' → 0 < classes counts
    → Leafed A (classes counts) store leaves → Leafed A (classes counts') store' leaves
leaves-stay A counts store counts' store' maps' cells' leaves after some h σ =
    leaf-stays A (classes counts) (classes counts') store store' after.same after.more some σ (get_or leaves σ 0) (h σ)

-- none was met
pub no-leaves : (A : Automaton) (n : ℕ) (store leaves : List ℕ) → ((i : ℕ) → get_or leaves i 0 ≡ 0) → Leafed A n store leaves
no-leaves A n store leaves h σ some = let z = h σ in absurd (omega arith)

-- one more was met
pub leaf-met-more : (A : Automaton) (n : ℕ) (store leaves : List ℕ) (σ w : ℕ) → Leafed A n store leaves → Right A n store σ 0 0 w → Leafed A n store (set leaves σ w)
leaf-met-more A n store leaves σ w h new i = by (ℕ_discrete i σ) (dec_lt σ (length leaves))
  where
    by : Dec (i ≡ σ) → Dec (σ < length leaves) → Right A n store i 0 0 (get_or (set leaves σ w) i 0)
    by (yes e) (yes l) = rw (e, get_or-set_same leaves σ w 0 l) new
    by (yes e) (no l) = rw (set_out leaves σ w (omega arith)) (h i)
    by (no e) l = rw (get_or-set_other leaves σ i w 0 e) (h i)

-- nothing changed
pub as_before : (A : Automaton) (counts store maps cells : List ℕ) → CachedIn A counts store maps cells → After A counts store counts store maps cells
as_before A counts store maps cells k = record { cached = k; same = λ i s l. refl; more = omega arith }

-- the word of a node over two blank parts is that of a leaf
leaf-tells : (A : Automaton) (store : List ℕ) (σ w : ℕ) → Proper A → ((s : Side) → rows_of store 0 s ≡ no_pairs) → Node A store σ 0 0 w
    → TellsWord A store w (leaf σ)
unfolding overloops own_growth
leaf-tells A store σ w proper blank n = (
  λ s. leaf-formed A proper (Place.Child s) σ (blank Side.Left) (blank Side.Right) (n.rows s),
  λ s. leaf-grown A proper (Place.Child s) σ (blank Side.Left) (blank Side.Right) (n.growth s),
)

-- a word of the stack tells what its low part tells
low-id : (v w : ℕ) → low_of v ≡ w → id_of v ≡ id_of w
low-id v w e = omega arith

low-growth : (v w : ℕ) → low_of v ≡ w → (s : Side) → growth_in s v ≡ growth_in s w
low-growth v w e Side.Left = omega arith
low-growth v w e Side.Right = omega arith

low-tells : (A : Automaton) (n : ℕ) (store s : List ℕ) (v w : ℕ) (t : Tree) → low_of v ≡ w → id_of w < n → TellsWord A store w t → Classed A n store s v t
low-tells A n store s v w t e l x = (rw (low-id v w e) l, (λ side. rw (low-id v w e) (x.0 side), λ side. low-growth v w e side ∙ x.1 side))

-- ---- the sum

-- over a tree: at its root, and below
pub growths-below : (A : Automaton) (τ : Place) (t : Tree) → growths A τ t ≡ own_growth A τ t + below_growths A t
unfolding below_growths
growths-below A τ (leaf σ) = omega (arith, growths-leaf A τ σ)
growths-below A τ (node σ l r) = growths-own A τ σ l r

-- a leaf adds nothing
below-leaf : (A : Automaton) (σ n : ℕ) → below_growths A (leaf σ) + n ≡ n
unfolding below_growths
below-leaf A σ n = omega arith

-- a node adds the growths at the roots of its parts, which their words tell
pub below-node : (A : Automaton) (store : List ℕ) (σ x y : ℕ) (l r : Tree) → TellsWord A store x l → TellsWord A store y r
    → below_growths A (node σ l r) ≡ growth_in Side.Left x + growth_in Side.Right y + (below_growths A l + below_growths A r)
unfolding below_growths
below-node A store σ x y l r hl hr =
    omega (arith, growths-below A (Place.Child Side.Left) l, growths-below A (Place.Child Side.Right) r, hl.1 Side.Left, hr.1 Side.Right)

-- ---- a node more

pub leaf-on : (A : Automaton) (sg : Signature) (σ w v : ℕ) (cache cache' : Cache) (leaves table s leaves' table' : List ℕ) (st st' : Stack) (growth : ℕ)
    → Proper A → Loaded A sg cache leaves table s st growth → AfterCall A cache cache'
    → Leafed A (classes cache'.counts) cache'.store leaves' → Right A (classes cache'.counts) cache'.store σ 0 0 w → 0 < w → σ < sg.symbols → member sg.branches σ ≡ false → (height_of v ≡ 0) × (low_of v ≡ w)
    → ((ws : List ℕ) → Held table st ws → Held table' st' (v ∷ ws)) → Loaded A sg cache' leaves' table' (σ ∷ s) st' growth
leaf-on A sg σ w v cache cache' leaves table s leaves' table' st st' growth proper k after leafed right some small alone word held =
    let known = right some in
    record {
      cached = after.cached;
      leafed = leafed;
      stacked =
          rw (below-leaf A σ growth) at (passes.leaf-on (Classed A (classes cache.counts) cache.store) (Classed A (classes cache'.counts) cache'.store) sg σ v table s table' st st' k.stacked
          (same_class A (classes cache.counts) (classes cache'.counts) _ cache.store cache'.store after.same after.more)
          (low-tells A (classes cache'.counts) cache'.store s v w (leaf σ) word.1 known.0 (leaf-tells A cache'.store σ w proper after.cached.blank known.1))
          small alone word.0 held);
    }

-- the classes of the two trees on top
pub known : {A : Automaton} {sg : Signature} {cache : Cache} {leaves table s : List ℕ} {growth : ℕ} (st : Stack) → Loaded A sg cache leaves table s st growth
    → st.top + 1 < 128 → (id_of st.first < classes cache.counts) × (id_of st.second < classes cache.counts)
known st k few = let t = passes.top st k.stacked few in (t.trees.tells_l.0, t.trees.tells_r.0)

pub branch-on : (A : Automaton) (sg : Signature) (σ l r w v h : ℕ) (cache cache' : Cache) (leaves table s table' : List ℕ) (st st' : Stack) (growth sum : ℕ)
    → Loaded A sg cache leaves table s st growth → st.top + 1 < 128
    → AfterCall A cache cache' → l ≡ id_of st.first
    → r ≡ id_of st.second → Right A (classes cache'.counts) cache'.store σ l r w → 0 < w → σ < sg.symbols
    → member sg.branches σ ≡ true → (height_of v ≡ h) × (low_of v ≡ w) → h ≡ max (height_of st.first) (height_of st.second) + 1 → h ≤ 64
    → ((x y : ℕ) (ws : List ℕ) → Held table st (x ∷ y ∷ ws) → Held table' st' (v ∷ ws))
    → sum ≡ growth + (growth_in Side.Left st.first + growth_in Side.Right st.second)
    → Loaded A sg cache' leaves table' (σ ∷ s) st' sum
branch-on A sg σ l r w v h cache cache' leaves table s table' st st' growth sum k few after el er right some small branch word over low held grown =
    let t = passes.top st k.stacked few in
    let known : Right A (classes cache'.counts) cache'.store σ (id_of st.first) (id_of st.second) w = rw (← el, ← er) right in
    let p = t.trees in
    let x = same-tells A (classes cache.counts) (classes cache'.counts) cache.store cache'.store after.same after.more st.first p.l p.tells_l in
    let y = same-tells A (classes cache.counts) (classes cache'.counts) cache.store cache'.store after.same after.more st.second p.r p.tells_r in
    let total : below_growths A (node σ p.l p.r) + p.total-rest ≡ sum =
    omega (arith, grown, p.total-is, below-node A cache.store σ st.first st.second p.l p.r p.tells_l.1 p.tells_r.1) in
    record {
      cached = after.cached;
      leafed = leaves-stay A cache.counts cache.store cache'.counts cache'.store cache'.maps cache'.cells leaves after k.cached.some k.leafed;
      stacked =
          rw total at (passes.branch-on (Classed A (classes cache.counts) cache.store) (Classed A (classes cache'.counts) cache'.store) sg σ v h table s table' st st' t k.stacked.below
          (same_class A (classes cache.counts) (classes cache'.counts) _ cache.store cache'.store after.same after.more)
          (low-tells A (classes cache'.counts) cache'.store p.rest v w (node σ p.l p.r) word.1 (known some).0
          (node-tells A cache'.store σ (id_of st.first) (id_of st.second) w p.l p.r (known some).1 x.1.0 y.1.0))
          small branch word.0 over low held);
    }
