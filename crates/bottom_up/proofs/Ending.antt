-- What the stack tells at the root, and where the pass begins.
-- Assumes nothing.
use Rattle.std.proofs.Common.{Option, Some, None}
use Prim.Native.Nat.{ℕ, ◌+◌, ◌<◌, ◌≤◌, max}
use native.Mathlib.Omega.{arith}
use mathlib.Core.Path.{◌≡◌, refl, ap, ◌∙◌}
use mathlib.Core.Bool.{true}
use mathlib.Core.List.{List, [], ◌∷◌}
use lib.ListN.{length, get_or, drop}
use Rattle.relation.specs.Sets.{member}
use Rattle.model.specs.Trees.{Tree, leaf, node}
use Rattle.model.specs.declared.Side.{Side}
use Rattle.model.specs.declared.Place.{Place}
use Rattle.model.specs.declared.Signature.{Signature}
use Rattle.algorithms.specs.Automaton.{Automaton}
use Rattle.algorithms.specs.Overloops.{overloops}
use Rattle.algorithms.specs.Growth.{node_growth, growths}
use Rattle.algorithms.proofs.Grown.{node-sum}
use Rattle.nodes.specs.Preorder.{preorder, Writes}
use Rattle.class_tables.specs.Classes.{id_of, growth_in}
use Rattle.class_tables.specs.Cache.{classes, Cached}
use Rattle.class_tables.specs.declared.Cache.{Cache}
use Rattle.passes.specs.Told.{height_of}
use Rattle.passes.specs.declared.Stack.{Stack}
use Rattle.passes.proofs.Laws as passes
use Rattle.bottom_up.specs.Told.{Classed, below_growths, Rooted, PassedFew}
use Rattle.bottom_up.specs.Steps.{Loaded}
use Rattle.bottom_up.specs.declared.Passed.{Passed}
use Rattle.bottom_up.proofs.Loading.{no-leaves, below-node}

pub parts-ended : (A : Automaton) (sg : Signature) (σ x y h : ℕ) (cache : Cache) (leaves table s : List ℕ) (st : Stack) (growth sum : ℕ)
    → Loaded A sg cache leaves table s st growth → st.top ≡ 126 → σ < sg.symbols → member sg.branches σ ≡ true
    → h ≡ max (height_of st.first) (height_of st.second) + 1 → h ≤ 64 → x ≡ id_of st.first → y ≡ id_of st.second
    → sum ≡ growth + (growth_in Side.Left st.first + growth_in Side.Right st.second) → Rooted A sg (classes cache.counts) cache.store (σ ∷ s) x y sum
parts-ended A sg σ x y h cache leaves table s st growth sum k e small branch over low ex ey grown =
    let p = passes.parts-ended sg σ h table s st k.stacked e small branch over low in
    record {
      σ = p.σ;
      l = p.l;
      r = p.r;
      writes = p.writes;
      named_l = (rw ex p.tells_l.0, λ side. rw ex (p.tells_l.1.0 side));
      named_r = (rw ey p.tells_r.0, λ side. rw ey (p.tells_r.1.0 side));
      grown = omega (arith, grown, p.total, below-node A cache.store p.σ st.first st.second p.l p.r p.tells_l.1 p.tells_r.1);
    }

-- the pass begins with nothing on the stack
pub begun : (A : Automaton) (sg : Signature) (cache : Cache) (leaves table s : List ℕ) → length table ≡ 128
    → ((i : ℕ) → get_or leaves i 0 ≡ 0) → Cached A cache
    → Loaded A sg cache leaves table (drop (length s) s) (record { top = 128; first = 0; second = 0 }) 0
begun A sg cache leaves table s size none h =
    record { cached = h; leafed = no-leaves A (classes cache.counts) cache.store leaves none; stacked = passes.begun (Classed A (classes cache.counts) cache.store) (below_growths A) sg table s size }

pub whole : (s : List ℕ) (i : ℕ) → i ≡ 1 → 0 < length s → get_or s 0 0 ∷ drop i s ≡ s
whole [] i e some = absurd (omega arith)
whole (σ ∷ s) i e some = rw e

-- the root's symbol is the list's first
pub node-first : (sg : Signature) (s : List ℕ) (σ τ : ℕ) (l r : Tree) → Writes sg s (node τ l r) → σ ≡ get_or s 0 0 → σ ≡ τ
unfolding preorder
node-first sg s σ τ l r w e = e ∙ ap (λ (l : List ℕ). get_or l 0 0) w.text

pub leaf_first : (sg : Signature) (s : List ℕ) (σ τ : ℕ) → Writes sg s (leaf τ) → σ ≡ get_or s 0 0 → σ ≡ τ
unfolding preorder
leaf_first sg s σ τ w e = e ∙ ap (λ (l : List ℕ). get_or l 0 0) w.text

-- a sum that is small is below more
pub passed-more : (n m : ℕ) (p : Option Passed) → n ≤ m → PassedFew n p → PassedFew m p
passed-more n m (Some (Passed.Parts x y growth)) l h = omega arith
passed-more n m (Some Passed.Leaf) l h = tt
passed-more n m None l h = tt

-- the sum over a tree, from the growth of closing at the root and the sum below it
pub root-sum : (A : Automaton) (σ : ℕ) (l r : Tree) (L R : List ℕ) (below own sum : ℕ)
    → L ≡ overloops A (Place.Child Side.Left) l → R ≡ overloops A (Place.Child Side.Right) r → own ≡ node_growth A Place.Root σ L R
    → below ≡ below_growths A (node σ l r) → sum ≡ below + own → sum ≡ growths A Place.Root (node σ l r)
unfolding below_growths
root-sum A σ l r L R below own sum el er eo eb es = omega (arith, eb, es, node-sum A Place.Root σ l r el er eo refl refl)
