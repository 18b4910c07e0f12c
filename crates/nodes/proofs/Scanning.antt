-- What one pass finds is what lines 10 and 11 say of the whole list (`scan-symbols`, `scan-shape`).
-- Assumes nothing.
use Prim.Native.Nat.{ℕ, zero, suc, ◌+◌, ◌-◌, ◌*◌, ◌≤◌, ◌<◌}
use native.Mathlib.Numerals.{add-one}
use native.Mathlib.Omega.{arith}
use mathlib.Core.Path.{◌≡◌, refl, sym, ap, ◌∙◌}
use mathlib.Core.Bool.{Bool, true, false}
use mathlib.Core.List.{List, [], ◌∷◌}
use lib.Dec.{leb, ltb}
use lib.ListN.{length, get_or, drop, drop_of_length-le}
use lib.Seq.{drop-cons}
use borrow.Author.Tests.{lt-ltb, le-ltb, eq-eqb, ne_eqb}
use Rattle.blocks.specs.Search.{lowest_from}
use Rattle.relation.specs.Sets.{member}
use Rattle.model.specs.declared.Signature.{Signature}
use Rattle.refusal.specs.Checks.{refused, refuse_if, refuse_at}
use Rattle.refusal.specs.declared.Fault.{Fault}
use Rattle.nodes.specs.Nodes.{no_symbol, symbols_check, opened, parts_from, shape_check}
use Rattle.nodes.specs.Scan.{nothing_read, first_after, opened_by, parts_after, scanned_of, scan_of, symbols_by, shape_by}
use Rattle.nodes.specs.declared.Scan.{Scan}

-- ---- the parts after a node

-- the parts by the number that says whether the node is a branch
pub parts_are : (n one : ℕ) (branch : Bool) → (n ≡ 0 → ⊥) → one ≡ opened_by branch → n - 1 + 2 * one ≡ parts_after n branch
unfolding parts_after
parts_are zero one branch h e = absurd (h refl)
parts_are (suc n) one true h e = omega arith
parts_are (suc n) one false h e = omega arith

pub opened-most : (branch : Bool) → opened_by branch ≤ 1
opened-most true = omega arith
opened-most false = omega arith

pub parts-bound : (n : ℕ) (branch : Bool) → parts_after n branch ≤ n + 1
unfolding parts_after
parts-bound zero branch = omega arith
parts-bound (suc n) true = omega arith
parts-bound (suc n) false = omega arith

parts-opened : (n : ℕ) (branch : Bool) → parts_after (suc n) branch ≡ opened branch n
unfolding parts_after
parts-opened n true = add-one (suc n)
parts-opened n false = refl

-- ---- the first node of a kind: found it stays, and until then it is the next node

pub first-stays : (i n : ℕ) (here : Bool) → i < n → first_after i n here ≡ i
unfolding first_after
first-stays i n true h = refl
first-stays i n false h = rw (ne_eqb i n (λ e. omega arith))

pub first-here : (i n : ℕ) (here : Bool) → here ≡ true → first_after i n here ≡ i
unfolding first_after
first-here i n here e = rw e

pub first-later : (i n : ℕ) (here : Bool) → here ≡ false → i ≡ n → first_after i n here ≡ n + 1
unfolding first_after
first-later i n here e h = rw (e, eq-eqb i n h)

module _ (sg : Signature) where
  -- ---- line 10

  symbols-found : (i : ℕ) (s : List ℕ) (scan : Scan) → scan.unknown ≡ i → i < scan.nodes →
      symbols_by (scan_of sg scan s) ≡ refused Fault.Symbol 1 i
  unfolding symbols_by scan_of scanned_of
  symbols-found i [] scan e h = rw (e, lt-ltb i scan.nodes h)
  symbols-found i (σ ∷ s) scan e h =
      symbols-found i s (scanned_of sg scan σ) (rw e (first-stays i scan.nodes (leb sg.symbols σ) h)) (omega arith)

  module _ (w : List ℕ) where
    SymbolsFrom : (n i : ℕ) → Type 0
    SymbolsFrom n i =
        (scan : Scan) → i + n ≡ length w → scan.unknown ≡ i → scan.nodes ≡ i →
        symbols_by (scan_of sg scan (drop i w)) ≡ refuse_at Fault.Symbol 1 (lowest_from (no_symbol sg w) i n)

    symbols-step : (n i : ℕ) → SymbolsFrom n (suc i) → (t : Bool) → leb sg.symbols (get_or w i 0) ≡ t → SymbolsFrom (suc n) i
    unfolding SymbolsFrom symbols_by scan_of scanned_of lowest_from no_symbol
    symbols-step n i on true e scan l u k =
        rw (drop-cons w i 0 (omega arith), e)
        (symbols-found i (drop (suc i) w) (scanned_of sg scan (get_or w i 0)) (first-here _ _ _ e ∙ u) (omega arith))
    symbols-step n i on false e scan l u k =
        rw (drop-cons w i 0 (omega arith), e)
        (on (scanned_of sg scan (get_or w i 0)) (omega arith) (first-later _ _ _ e (u ∙ sym k) ∙ omega arith) (omega arith))

    symbols-from : (n i : ℕ) → SymbolsFrom n i
    unfolding SymbolsFrom symbols_by scan_of lowest_from
    symbols-from zero i scan l u k = rw (drop_of_length-le w {i = i} (omega arith), le-ltb scan.unknown scan.nodes (omega arith))
    symbols-from (suc n) i scan l u k = symbols-step n i (symbols-from n (suc i)) (leb sg.symbols (get_or w i 0)) refl scan l u k

  pub scan-symbols : (s : List ℕ) → symbols_by (scan_of sg nothing_read s) ≡ symbols_check sg s
  unfolding symbols_check nothing_read SymbolsFrom
  scan-symbols s = symbols-from s (length s) 0 nothing_read (omega arith) refl refl

  -- ---- line 11

  shape-found : (i : ℕ) (s : List ℕ) (scan : Scan) → scan.over ≡ i → i < scan.nodes → shape_by (scan_of sg scan s) ≡ refused Fault.Shape 1 i
  unfolding shape_by scan_of scanned_of
  shape-found i [] scan e h = rw (e, lt-ltb i scan.nodes h)
  shape-found i (σ ∷ s) scan e h = shape-found i s (scanned_of sg scan σ) (rw e (first-stays i scan.nodes _ h)) (omega arith)

  ShapeFrom : List ℕ → Type 0
  ShapeFrom s = (scan : Scan) → scan.over ≡ scan.nodes → shape_by (scan_of sg scan s) ≡ parts_from sg.branches scan.parts scan.nodes s

  shape-end : (n i : ℕ) → refuse_if (ltb 0 n) Fault.Shape 1 i ≡ parts_from sg.branches n i []
  unfolding parts_from
  shape-end zero i = refl
  shape-end (suc n) i = rw (lt-ltb 0 (suc n) (omega arith))

  shape-step : (σ : ℕ) (s : List ℕ) → ShapeFrom s → (n : ℕ) (scan : Scan) → scan.parts ≡ n → scan.over ≡ scan.nodes →
      shape_by (scan_of sg scan (σ ∷ s)) ≡ parts_from sg.branches n scan.nodes (σ ∷ s)
  unfolding ShapeFrom parts_from scan_of scanned_of
  shape-step σ s on zero scan e h =
      shape-found scan.nodes s (scanned_of sg scan σ) (first-here _ _ _ (eq-eqb _ _ e) ∙ h) (omega arith)
  shape-step σ s on (suc n) scan e h =
      on (scanned_of sg scan σ) (first-later _ _ _ (ne_eqb scan.parts 0 (λ z. omega (arith, e, z))) h)
      ∙ ap (λ (k : ℕ). parts_from sg.branches k (scan.nodes + 1) s) (rw e (parts-opened n (member sg.branches σ)))

  shape-from : (s : List ℕ) → ShapeFrom s
  unfolding ShapeFrom shape_by scan_of
  shape-from [] scan h = rw (le-ltb scan.over scan.nodes (omega arith)) (shape-end scan.parts scan.nodes)
  shape-from (σ ∷ s) scan h = shape-step σ s (shape-from s) scan.parts scan refl h

  pub scan-shape : (s : List ℕ) → shape_by (scan_of sg nothing_read s) ≡ shape_check sg.branches s
  unfolding shape_check nothing_read ShapeFrom
  scan-shape s = shape-from s nothing_read refl
