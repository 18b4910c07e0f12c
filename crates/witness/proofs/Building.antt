-- A plan that 15 passes builds the tree that its definition gives: over the signature, no higher than its last row's number.
-- Assumes nothing.
use Prim.Native.Nat.{ℕ, zero, suc, ◌+◌, ◌-◌, ◌*◌, ◌<◌, ◌≤◌}
use native.Mathlib.Omega.{arith}
use mathlib.Core.Path.{◌≡◌, refl, sym, ap, subst}
use mathlib.Core.Bool.{Bool, true, false, not}
use mathlib.Core.List.{List, [], ◌∷◌}
use lib.ListN.{length, get_or}
use lib.Dec.{leb, eqb}
use borrow.Author.Tests.{eqb-true, eqb-false, leb-false, not-false}
use Rattle.relation.specs.Bit.{bit}
use Rattle.relation.proofs.BitLaws.{bit-off}
use Rattle.algorithms.proofs.Alphabets.{to-numbered}
use Rattle.nodes.specs.Preorder.{alphabet}
use Rattle.refusal.proofs.Passed.{or-is-false}
use Rattle.relation.specs.Sets.{member}
use Rattle.model.specs.Trees.{leaf, height}
use Rattle.model.specs.Counting.{Over}
use Rattle.model.specs.Lists.{◌∈◌, Nth, here, there}
use Rattle.model.specs.Saturation.{WitnessRow, witness_row, BuildsAt, leaf-row, node-row, Builds}
use Rattle.model.specs.declared.Signature.{Signature}
use Rattle.emptiness.specs.Surveyed.{plan_bytes}
use Rattle.witness.specs.Plan.{plan_rows, rows_in, symbol_at, left_at, right_at, row_tree, plan_tree, parts_wrong}
use Rattle.witness.specs.Sound.{RowIs, leaf_row, node_row, Sound}
use Rattle.witness.proofs.Passed.{PlanPassed, sound, leaf-tree, node-tree}

-- ---- the rows, from bytes and back

pub rows_back : (rows : List WitnessRow) → plan_rows (plan_bytes rows) ≡ rows
rows_back [] = refl
rows_back (r ∷ rows) = ap (λ (l : List WitnessRow). r ∷ l) (rows_back rows)

pub bytes-length : (rows : List WitnessRow) → length (plan_bytes rows) ≡ 3 * length rows
bytes-length [] = refl
bytes-length (r ∷ rows) = omega (arith, bytes-length rows)

pub rows-length : (p : List ℕ) → length (plan_rows p) ≡ rows_in p
rows-length [] = refl
rows-length (σ ∷ []) = refl
rows-length (σ ∷ a ∷ []) = refl
rows-length (σ ∷ a ∷ b ∷ p) = omega (arith, rows-length p)

abbrev pub row_at : List ℕ → ℕ → WitnessRow
row_at p i = witness_row (symbol_at p i) (left_at p i) (right_at p i)

-- row i + 1 is row i of what follows the first row
next_row : (σ a b : ℕ) (p : List ℕ) (i : ℕ) → row_at (σ ∷ a ∷ b ∷ p) (suc i) ≡ row_at p i
next_row σ a b p i =
    let q = σ ∷ a ∷ b ∷ p in
    let x : symbol_at q (suc i) ≡ symbol_at p i = at (3 * suc i) (3 * i) (omega arith) in
    let y : left_at q (suc i) ≡ left_at p i = at (3 * suc i + 1) (3 * i + 1) (omega arith) in
    let z : right_at q (suc i) ≡ right_at p i = at (3 * suc i + 2) (3 * i + 2) (omega arith) in
    cc (x, y, z)
  where
    at : (j k : ℕ) → j ≡ suc (suc (suc k)) → get_or (σ ∷ a ∷ b ∷ p) j 0 ≡ get_or p k 0
    at j k e = rw e

pub row-nth : (p : List ℕ) (i : ℕ) → i < rows_in p → Nth (plan_rows p) i (row_at p i)
row-nth [] i h = absurd (omega arith)
row-nth (σ ∷ []) i h = absurd (omega arith)
row-nth (σ ∷ a ∷ []) i h = absurd (omega arith)
row-nth (σ ∷ a ∷ b ∷ p) zero h = here refl
row-nth (σ ∷ a ∷ b ∷ p) (suc i) h = there (subst (λ (r : WitnessRow). Nth (plan_rows p) i r) (sym (next_row σ a b p i)) (row-nth p i (omega arith)))

-- ---- the trees

module _ (p : List ℕ) (s : Sound p) where
  leaf-built : (i : ℕ) → i < rows_in p → left_at p i ≡ 255 → right_at p i ≡ 255 → BuildsAt (plan_rows p) i (leaf (symbol_at p i))
  leaf-built i l a b =
      let e : row_at p i ≡ witness_row (symbol_at p i) 255 255 = cc (a, b) in
      leaf-row (subst (λ (r : WitnessRow). Nth (plan_rows p) i r) e (row-nth p i l))

  -- each row builds its tree, by induction on a bound of the row's number
  pub builds-below : (n i : ℕ) → i < n → i < rows_in p → BuildsAt (plan_rows p) i (row_tree p i)
  builds-below zero i h l = absurd (omega arith)
  builds-below (suc n) i h l = by (s.rows i l) (λ j m. builds-below n j (omega arith) (omega arith))
    where
      by : RowIs p i → ((j : ℕ) → j < i → BuildsAt (plan_rows p) j (row_tree p j)) → BuildsAt (plan_rows p) i (row_tree p i)
      by (leaf_row a b) later = rw (leaf-tree p s i a) (leaf-built i l a b)
      by (node_row a b) later =
          let t = node-tree p s i l (λ e. omega (arith, s.few)) in
          rw t.tree (node-row (row-nth p i l) a b (later (left_at p i) a) (later (right_at p i) b))

  pub low_below : (n i : ℕ) → i < n → i < rows_in p → height (row_tree p i) ≤ i
  low_below zero i h l = absurd (omega arith)
  low_below (suc n) i h l = by (s.rows i l) (λ j m. low_below n j (omega arith) (omega arith))
    where
      by : RowIs p i → ((j : ℕ) → j < i → height (row_tree p j) ≤ j) → height (row_tree p i) ≤ i
      by (leaf_row a b) later = rw (leaf-tree p s i a) (omega arith)
      by (node_row a b) later =
          let t = node-tree p s i l (λ e. omega (arith, s.few)) in
          rw t.tree (omega (arith, later (left_at p i) a, later (right_at p i) b))

  -- the plan builds its tree
  pub plan-builds : Builds (plan_rows p) (plan_tree p)
  plan-builds =
      record {
        last = rows_in p - 1;
        is_last = omega (arith, rows-length p, s.some);
        tree = builds-below (rows_in p) (rows_in p - 1) (omega (arith, s.some)) (omega (arith, s.some));
      }

  -- 65 rows give height 64 at the most
  pub plan-low : height (plan_tree p) ≤ 64
  plan-low = omega (arith, low_below (rows_in p) (rows_in p - 1) (omega (arith, s.some)) (omega (arith, s.some)), s.few)

-- ---- the symbols

leaf-over : (sg : Signature) (σ : ℕ) → σ < sg.symbols → member sg.branches σ ≡ false → σ ∈ (alphabet sg).leaves
unfolding member
leaf-over sg σ h e = to-numbered 0 sg.branches 0 sg.symbols σ (omega arith) (omega arith) (bit-off sg.branches σ (eqb-false (bit sg.branches σ) 1 e))

branch-over : (sg : Signature) (σ : ℕ) → σ < sg.symbols → member sg.branches σ ≡ true → σ ∈ (alphabet sg).branches
unfolding member
branch-over sg σ h e = to-numbered 1 sg.branches 0 sg.symbols σ (omega arith) (omega arith) (eqb-true (bit sg.branches σ) 1 e)

module _ (sg : Signature) (p : List ℕ) (passed : PlanPassed sg p) where
  pub over_below : (n i : ℕ) → i < n → i < rows_in p → Over (alphabet sg) (row_tree p i)
  unfolding parts_wrong
  over_below zero i h l = absurd (omega arith)
  over_below (suc n) i h l =
      by (member sg.branches (symbol_at p i)) refl (passed.rows i l).parts (λ j m. over_below n j (omega arith) (omega arith))
    where
      by : (branch : Bool) → member sg.branches (symbol_at p i) ≡ branch → parts_wrong branch i (left_at p i) (right_at p i) ≡ false
          → ((j : ℕ) → j < i → Over (alphabet sg) (row_tree p j)) → Over (alphabet sg) (row_tree p i)
      by true e w later =
          let both = or-is-false (leb i (left_at p i)) (leb i (right_at p i)) w in
          let a = leb-false i (left_at p i) both.0 in
          let b = leb-false i (right_at p i) both.1 in
          let t = node-tree p (sound sg p passed) i l (λ f. omega (arith, passed.few)) in
          rw t.tree (branch-over sg (symbol_at p i) (passed.rows i l).known e, later (left_at p i) a, later (right_at p i) b)
      by false e w later =
          let both = or-is-false (not (eqb (left_at p i) 255)) (not (eqb (right_at p i) 255)) w in
          rw (leaf-tree p (sound sg p passed) i (eqb-true _ _ (not-false _ both.0))) (leaf-over sg (symbol_at p i) (passed.rows i l).known e)

  pub plan-over : Over (alphabet sg) (plan_tree p)
  plan-over = over_below (rows_in p) (rows_in p - 1) (omega (arith, passed.some)) (omega (arith, passed.some))
