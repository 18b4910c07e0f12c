-- What is known of a plan that 15 passes: its rows, and the tree that each builds.
-- Assumes nothing.
use Rattle.std.proofs.Common.{Ok}
use Prim.Native.Nat.{ℕ, zero, suc, ◌*◌, ◌/◌, ◌%◌, ◌<◌, ◌≤◌}
use native.Mathlib.Omega.{arith}
use mathlib.Core.Path.{◌≡◌, sym, ◌∙◌}
use mathlib.Core.Bool.{Bool, true, false, not, ◌||◌}
use mathlib.Core.List.{List}
use borrow.Author.Tests.{eq-eqb, ne_eqb, eqb-true, eqb-false, leb-false, ltb-false, not-false}
use lib.Dec.{leb, ltb, eqb}
use lib.ListN.{length}
use Rattle.blocks.specs.Search.{lowest}
use Rattle.blocks.proofs.Laws.{lowest-nothing}
use Rattle.relation.specs.Sets.{member}
use Rattle.model.specs.Trees.{leaf, node}
use Rattle.model.specs.declared.Signature.{Signature}
use Rattle.refusal.specs.Checks.{refuse_if, refuse_at}
use Rattle.refusal.specs.declared.Fault.{Fault}
use Rattle.refusal.proofs.Passed.{both-passed, if-passed, at-passed, or-is-false}
use Rattle.witness.specs.Plan.{rows_in, symbol_at, left_at, right_at, tree_within, row_tree, length_wrong, parts_wrong, row_wrong, plan_check}
use Rattle.witness.specs.Sound.{RowIs, leaf_row, node_row, Sound}

-- ---- where 15 passes

pub record RowPassed (sg : Signature) (p : List ℕ) (i : ℕ) : Type 0 where
  pub known : symbol_at p i < sg.symbols
  pub parts : parts_wrong (member sg.branches (symbol_at p i)) i (left_at p i) (right_at p i) ≡ false

pub record PlanPassed (sg : Signature) (p : List ℕ) : Type 0 where
  pub some : 0 < rows_in p
  pub few : rows_in p ≤ 65
  pub whole : length p ≡ 3 * rows_in p
  pub rows : (i : ℕ) → i < rows_in p → RowPassed sg p i

row-passed : (sg : Signature) (p : List ℕ) (i : ℕ) → row_wrong sg p i ≡ false → RowPassed sg p i
unfolding row_wrong
row-passed sg p i e =
    let both = or-is-false (leb sg.symbols (symbol_at p i)) (parts_wrong (member sg.branches (symbol_at p i)) i (left_at p i) (right_at p i)) e in
    record { known = leb-false _ _ both.0; parts = both.1 }

-- the lengths that are right: some rows, at most 65, and nothing else
pub record LengthRight (n : ℕ) : Type 0 where
  pub some : 0 < n / 3
  pub few : n / 3 ≤ 65
  pub whole : n ≡ 3 * (n / 3)

pub length-right : (n : ℕ) → length_wrong n ≡ false → LengthRight n
unfolding length_wrong
length-right n e =
    let u = or-is-false (eqb n 0 || not (eqb (n % 3) 0)) (ltb 195 n) e in
    let v = or-is-false (eqb n 0) (not (eqb (n % 3) 0)) u.0 in
    let nonzero = eqb-false n 0 v.0 in
    let whole = eqb-true (n % 3) 0 (not-false _ v.1) in
    let most = ltb-false 195 n u.1 in
    record { some = omega arith; few = omega arith; whole = omega arith }

pub plan-passed : (sg : Signature) (p : List ℕ) → plan_check sg p ≡ Ok tt → PlanPassed sg p
unfolding plan_check
plan-passed sg p e =
    let both = both-passed (refuse_if (length_wrong (length p)) Fault.Plan 2 0) (refuse_at Fault.Plan 2 (lowest (row_wrong sg p) (rows_in p))) e in
    let right = length-right (length p) (if-passed (length_wrong (length p)) Fault.Plan 2 0 both.0) in
    let none = at-passed (lowest (row_wrong sg p) (rows_in p)) Fault.Plan 2 both.1 in
    record {
      some = right.some;
      few = right.few;
      whole = right.whole;
      rows = λ i l. row-passed sg p i (lowest-nothing (row_wrong sg p) 0 (rows_in p) none i (omega arith) (omega arith));
    }

row_is : (p : List ℕ) (i : ℕ) (branch : Bool) → parts_wrong branch i (left_at p i) (right_at p i) ≡ false → RowIs p i
unfolding parts_wrong
row_is p i true e =
    let both = or-is-false (leb i (left_at p i)) (leb i (right_at p i)) e in
    node_row (leb-false _ _ both.0) (leb-false _ _ both.1)
row_is p i false e =
    let both = or-is-false (not (eqb (left_at p i) 255)) (not (eqb (right_at p i) 255)) e in
    leaf_row (eqb-true _ _ (not-false _ both.0)) (eqb-true _ _ (not-false _ both.1))

pub sound : (sg : Signature) (p : List ℕ) → PlanPassed sg p → Sound p
sound sg p h =
    record {
      some = h.some;
      few = h.few;
      whole = h.whole;
      rows = λ i l. row_is p i (member sg.branches (symbol_at p i)) (h.rows i l).parts;
    }

-- ---- the trees of the rows

within-leaf : (p : List ℕ) (f i : ℕ) → left_at p i ≡ 255 → tree_within p (suc f) i ≡ leaf (symbol_at p i)
unfolding tree_within
within-leaf p f i e = rw (eq-eqb (left_at p i) 255 e)

within-node : (p : List ℕ) (f i : ℕ) → (left_at p i ≡ 255 → ⊥) →
    tree_within p (suc f) i ≡ node (symbol_at p i) (tree_within p f (left_at p i)) (tree_within p f (right_at p i))
unfolding tree_within
within-node p f i n = rw (ne_eqb (left_at p i) 255 n)

module _ (p : List ℕ) (s : Sound p) where
  not_255 : (i : ℕ) → i < rows_in p → left_at p i < i → left_at p i ≡ 255 → ⊥
  not_255 i l a e = omega (arith, s.few)

  -- the steps allowed do not matter, so long as they are enough
  enough : (f g i : ℕ) → i < f → i < g → i < rows_in p → tree_within p f i ≡ tree_within p g i
  enough zero g i h k l = absurd (omega arith)
  enough (suc f) zero i h k l = absurd (omega arith)
  enough (suc f) (suc g) i h k l =
      by (s.rows i l) (λ j m n. enough f g j (omega arith) (omega arith) n)
    where
      by : RowIs p i → ((j : ℕ) → j < i → j < rows_in p → tree_within p f j ≡ tree_within p g j) → tree_within p (suc f) i ≡ tree_within p (suc g) i
      by (leaf_row a b) later = within-leaf p f i a ∙ sym (within-leaf p g i a)
      by (node_row a b) later =
          let n = not_255 i l a in
          within-node p f i n ∙ cc (later (left_at p i) a (omega arith), later (right_at p i) b (omega arith)) ∙ sym (within-node p g i n)

  pub leaf-tree : (i : ℕ) → left_at p i ≡ 255 → row_tree p i ≡ leaf (symbol_at p i)
  unfolding row_tree
  leaf-tree i e = within-leaf p i i e

  pub record NodeRow (i : ℕ) : Type 0 where
    pub left : left_at p i < i
    pub right : right_at p i < i
    pub tree : row_tree p i ≡ node (symbol_at p i) (row_tree p (left_at p i)) (row_tree p (right_at p i))

  pub node-tree : (i : ℕ) → i < rows_in p → (left_at p i ≡ 255 → ⊥) → NodeRow i
  unfolding row_tree
  node-tree i l n = by (s.rows i l)
    where
      by : RowIs p i → NodeRow i
      by (leaf_row a b) = absurd (n a)
      by (node_row a b) =
          record {
            left = a;
            right = b;
            tree =
                within-node p i i n
                ∙ cc (enough i (suc (left_at p i)) (left_at p i) a (omega arith) (omega arith), enough i (suc (right_at p i)) (right_at p i) b (omega arith) (omega arith));
          }
