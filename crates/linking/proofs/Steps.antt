-- The stack and the tables after a leaf, after a branch, and at the end of the pass.
-- Assumes nothing.
use Prim.Native.Nat.{ℕ, zero, suc, ◌+◌, ◌<◌, ◌≤◌, max}
use native.Mathlib.Omega.{arith}
use mathlib.Core.Path.{◌≡◌, refl, sym, ap, ◌∙◌}
use mathlib.Core.Bool.{true, false}
use mathlib.Core.List.{List, ◌∷◌, ◌++◌}
use lib.ListN.{length, get_or, drop, set, length-set, length-append}
use lib.Seq.{get_or-set_same, get_or-set_other}
use Rattle.relation.specs.Sets.{member}
use Rattle.model.specs.Trees.{Tree, size}
use Rattle.model.specs.declared.Signature.{Signature}
use Rattle.nodes.specs.Preorder.{preorder, Writes}
use Rattle.nodes.proofs.Standing.{size-preorder}
use Rattle.links.specs.Links.{parents_of}
use Rattle.links.specs.Tables.{Tables}
use Rattle.links.proofs.Numbering.{some-nodes}
use Rattle.links.proofs.Linking.{head-parent}
use Rattle.passes.specs.Told.{height_of, low_of}
use Rattle.passes.specs.Held.{Held}
use Rattle.passes.specs.Stacked.{One}
use Rattle.passes.specs.declared.Stack.{Stack}
use Rattle.passes.proofs.Laws as passes
use Rattle.passes.proofs.Laws.{Becomes}
use Rattle.linking.specs.Placed.{LinkedFrom, Placed, uncounted, Loaded}
use Rattle.linking.proofs.Placing.{linked-kept, linked-leaf, linked-node}

-- tables that change before the last k nodes only
placed-kept : (n k : ℕ) (P R P' R' : List ℕ) → ((i : ℕ) → n ≤ i + k → get_or P' i 0 ≡ get_or P i 0) → ((i : ℕ) → n ≤ i + k → get_or R' i 0 ≡ get_or R i 0)
    → Becomes (Placed n P R) (Placed n P' R') k
placed-kept n k P R P' R' p r s w t l h =
    let stands = h.stands in
    record { stands = stands; linked = linked-kept P R P' R' (low_of w) t (λ i b. p i (omega arith)) (λ i b. r i (omega arith)) h.linked }

pub leaf-on : (sg : Signature) (n σ at v : ℕ) (P R table s table' : List ℕ) (st st' : Stack) → Loaded sg n P R table s st → at + 1 + length s ≡ n
    → σ < sg.symbols → member sg.branches σ ≡ false → (height_of v ≡ 0) × (low_of v ≡ at)
    → ((ws : List ℕ) → Held table st ws → Held table' st' (v ∷ ws)) → Loaded sg n P (set R at 0) table' (σ ∷ s) st'
leaf-on sg n σ at v P R table s table' st st' k e small alone word held =
    let long = k.rights_long in
    record {
      parents_long = k.parents_long;
      rights_long = omega (arith, length-set R at 0);
      stacked =
          passes.leaf-on (Placed n P R) (Placed n P (set R at 0)) sg σ v table s table' st st' k.stacked
          (placed-kept n (length s) P R P (set R at 0) (λ i b. refl) (λ i b. get_or-set_other R at i 0 0 (λ f. omega arith)))
          (record {
            stands = rw word.1 (omega arith);
            linked = rw word.1 (linked-leaf P (set R at 0) at σ (get_or-set_same R at 0 0 (omega arith)));
          })
          small alone word.0 held;
    }

-- the list of two trees and the rest
two-long : (l r : Tree) (s rest : List ℕ) → s ≡ preorder l ++ (preorder r ++ rest) → length s ≡ size l + (size r + length rest)
two-long l r s rest e =
    let a = length-append (preorder l) (preorder r ++ rest) in
    let b = length-append (preorder r) rest in
    let x = size-preorder l in
    let y = size-preorder r in
    let z = ap length e in
    omega arith

pub branch-on : (sg : Signature) (n σ at right v h : ℕ) (P R table s table' : List ℕ) (st st' : Stack) → Loaded sg n P R table s st → st.top + 1 < 128
    → at + 1 + length s ≡ n → right ≡ low_of st.second
    → σ < sg.symbols → member sg.branches σ ≡ true → (height_of v ≡ h) × (low_of v ≡ at)
    → h ≡ max (height_of st.first) (height_of st.second) + 1 → h ≤ 64
    → ((x y : ℕ) (ws : List ℕ) → Held table st (x ∷ y ∷ ws) → Held table' st' (v ∷ ws))
    → Loaded sg n (set (set P (at + 1) at) right at) (set R at right) table' (σ ∷ s) st'
branch-on sg n σ at right v h P R table s table' st st' k few e is small branch word over low held =
    let t = passes.top st k.stacked few in
    let p = t.trees in
    let l = p.l in
    let r = p.r in
    let rest = p.rest in
    let none : p.total-rest ≡ 0 = omega (arith, p.total-is) in
    let size-s = two-long l r s rest p.list in
    let size-r = length-append (preorder r) rest in
    let size_is = size-preorder r in
    let stands-l = p.tells_l.stands in
    let stands-r = p.tells_r.stands in
    let some-l = some-nodes l in
    let some-r = some-nodes r in
    let at-l : low_of st.first ≡ at + 1 = omega arith in
    let at-r : low_of st.second ≡ at + 1 + size l = omega arith in
    let right_is : right ≡ at + 1 + size l = is ∙ at-r in
    let P-long = k.parents_long in
    let R-long = k.rights_long in
    let P₁ = set P (at + 1) at in
    let P₁-long = length-set P (at + 1) at in
    record {
      parents_long = omega (arith, length-set (set P (at + 1) at) right at);
      rights_long = omega (arith, length-set R at right);
      stacked =
          rw none at
          (passes.branch-on (Placed n P R) (Placed n (set (set P (at + 1) at) right at) (set R at right)) sg σ v h table s table' st st' t
          k.stacked.below
          (placed-kept n (length rest) P R (set (set P (at + 1) at) right at) (set R at right)
          (λ i b. get_or-set_other (set P (at + 1) at) right i at 0 (λ f. omega arith) ∙ get_or-set_other P (at + 1) i at 0 (λ f. omega arith))
          (λ i b. get_or-set_other R at i right 0 (λ f. omega arith)))
          (record {
            stands = rw word.1 (omega arith);
            linked =
                rw word.1
                (linked-node P R (set (set P (at + 1) at) right at) (set R at right) at σ l r (rw (← at-l) p.tells_l.linked) (rw (← at-r) p.tells_r.linked)
                (get_or-set_other (set P (at + 1) at) right (at + 1) at 0 (λ f. omega arith) ∙ get_or-set_same P (at + 1) at 0 (omega arith))
                (rw (← right_is) (get_or-set_same (set P (at + 1) at) right at 0 (omega arith)))
                (λ i b f. get_or-set_other (set P (at + 1) at) right i at 0 (λ g. f (g ∙ right_is)) ∙ get_or-set_other P (at + 1) i at 0 (λ g. omega arith))
                (get_or-set_same R at right 0 (omega arith) ∙ right_is)
                (λ i b. get_or-set_other R at i right 0 (λ g. omega arith)));
          })
          small branch word.0 over low held);
    }

-- the pass begins with nothing on the stack
pub begun : (sg : Signature) (P R table s : List ℕ) → length table ≡ 128 → length s ≤ length P → length s ≤ length R
    → Loaded sg (length s) P R table (drop (length s) s) (record { top = 128; first = 0; second = 0 })
begun sg P R table s size_is p r =
    record { parents_long = p; rights_long = r; stacked = passes.begun (Placed (length s) P R) uncounted sg table s size_is }

-- one tree is left, the whole list; the root has no parent
pub ended : (sg : Signature) (P R table s : List ℕ) (st : Stack) → Loaded sg (length s) P R table s st → length s ≤ 4096 → st.top ≡ 127
    → (t : Tree) × Writes sg s t × Tables t s (set P 0 0) R
ended sg P R table s st k few e = (t, one.writes, tables)
  where
    one : One (Placed (length s) P R) uncounted sg s st.first 0
    one = passes.one_ended st k.stacked e

    t : Tree
    t = one.tree

    long : length s ≡ size t
    long = ap length one.writes.text ∙ size-preorder t

    first : low_of st.first ≡ 0
    first = let stands = one.tells.stands in omega (arith, long)

    linked : LinkedFrom P R 0 t
    linked = rw (← first) one.tells.linked

    parent : (i : ℕ) → i < size t → get_or (set P 0 0) i 0 ≡ get_or (parents_of t) i 0
    parent zero h = get_or-set_same P 0 0 0 (omega (arith, k.parents_long, long)) ∙ sym (head-parent 0 0 t)
    parent (suc i) h =
        let same : 0 + suc i ≡ suc i = omega arith in
        get_or-set_other P 0 (suc i) 0 0 (λ f. omega arith) ∙ ap (λ (j : ℕ). get_or P j 0) (sym same) ∙ linked.parents_are (suc i) (omega arith) h

    tables : Tables t s (set P 0 0) R
    tables =
        record {
          few_nodes = omega (arith, long, few);
          nodes_are = one.writes.text;
          parents_long = omega (arith, long, k.parents_long, length-set P 0 0);
          parents_are = parent;
          rights_long = omega (arith, long, k.rights_long);
          rights_are = λ i h. let same : 0 + i ≡ i = omega arith in ap (λ (j : ℕ). get_or R j 0) (sym same) ∙ linked.rights_are i h;
        }
