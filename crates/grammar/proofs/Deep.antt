-- Reading with the numbers of the open elements in a list: one tag more, and the end.
-- Assumes nothing.
use Prim.Native.Nat.{ℕ, zero, suc, ◌+◌, ◌-◌, ◌<◌, ◌≤◌}
use native.Mathlib.Omega.{arith}
use native.Mathlib.Nat.{pos_of_ne-zero}
use native.Mathlib.Numerals.{add-one}
use mathlib.Core.Path.{◌≡◌, refl, ap, ◌∙◌}
use mathlib.Core.Bool.{Bool, true, false}
use mathlib.Core.List.{List, [], ◌∷◌}
use lib.Dec.{eqb}
use lib.Arith.{lt_of_le-ne}
use lib.ListN.{length, get_or, set, length-set}
use lib.Seq.{get_or-set_same, get_or-set_other}
use borrow.Author.Tests.{eqb-true, eqb-false}
use Rattle.grammar.specs.Grammar.{Elements, Text, WrongAt}
use Rattle.grammar.specs.Pushdown.{between, Goes}
use Rattle.grammar.specs.Reading.{class_at, Stuck, Skipped, CloseAt, Named, CloseRead, open_in, Closes, StepRead, closed_by, opened_by, OpenRead, Reached}
use Rattle.std.proofs.Common.{Result, Ok, Err}
use Rattle.grammar.specs.declared.Wrong.{Wrong}
use Rattle.grammar.proofs.Going.{trans, stuck-after}
use Rattle.grammar.proofs.CloseTags.{early-stuck, root-closed}
use Rattle.grammar.proofs.Parts.{stray-stuck}
use Rattle.grammar.proofs.Filling.{filled-room, tag-filled, on-filled, nothing-filled}
use Rattle.grammar.proofs.Whole.{stuck-wrong, goes-right}

-- ---- the list of numbers

open-below : (l : List ℕ) (i d v : ℕ) → d ≤ i → open_in (set l i v) d ≡ open_in l d
open-below l i zero v h = refl
open-below l i (suc d) v h =
    ap (λ (n : ℕ). n ∷ open_in (set l i v) d) (get_or-set_other l i d v 0 (λ e. omega arith)) ∙ ap (λ (r : List ℕ). get_or l d 0 ∷ r) (open-below l i d v (omega arith))

pushed : (l : List ℕ) (d v : ℕ) → d < length l → open_in (set l d v) (d + 1) ≡ v ∷ open_in l d
pushed l d v h =
    ap (open_in (set l d v)) (add-one d)
    ∙ ap (λ (n : ℕ). n ∷ open_in (set l d v) d) (get_or-set_same l d v 0 h) ∙ ap (λ (r : List ℕ). v ∷ r) (open-below l d d v (omega arith))

popped : (l : List ℕ) (d : ℕ) → (d ≡ 0 → ⊥) → open_in l d ≡ get_or l (d - 1) 0 ∷ open_in l (d - 1)
popped l zero h = absurd (h refl)
popped l (suc d) h = let e : suc d - 1 ≡ d = omega arith in rw e

-- ---- a tag

pub opened-read : (s : List ℕ) (at : ℕ) (l : List ℕ) (depth : ℕ) (x : Result (ℕ × ℕ) Wrong) → OpenRead s at x → StepRead s at l depth (opened_by x)
opened-read s at l depth (Ok (n, r)) h = h
opened-read s at l depth (Err wrong) h = h (open_in l depth)

pub closed-read : (s : List ℕ) (at : ℕ) (l : List ℕ) (depth : ℕ) (x : Result ℕ Wrong) → (depth ≡ 0 → ⊥) → CloseRead s at (get_or l (depth - 1) 0) x
    → StepRead s at l depth (closed_by x)
closed-read s at l depth (Ok r) k h = record { some = k; shut = h }
closed-read s at l depth (Err wrong) k h = rw (popped l depth k) (h (open_in l (depth - 1)))

-- where nothing is open
pub closes-nothing : (s : List ℕ) (at : ℕ) (l : List ℕ) (depth : ℕ) → CloseAt s at → depth ≡ 0 → Stuck s at (between (open_in l depth)) (at + 1)
closes-nothing s at l depth c e = rw e (root-closed s at c)

-- ---- how far a text was read

pub reached-first : {s nodes numbers : List ℕ} {first : ℕ} → length s ≤ 32768 → length nodes ≡ 10924 → length numbers ≡ 10924 → Skipped s 0 first
    → Reached s first numbers 0 0 nodes
reached-first h k m f =
    record {
      to = f.to;
      ends = f.ends;
      goes = f.goes [];
      numbered = record { long = m; deep = omega arith; small = λ i l. absurd (omega arith) };
      few = omega arith;
      filled = on-filled (nothing-filled _ _ h k) f.from f.nodes;
    }

module _ {s numbers nodes : List ℕ} {next depth count : ℕ} (h : Reached s next numbers depth count nodes) where
  pub count_room : count < 10924
  count_room = filled-room h.filled h.to

  pub reached-open : {inside r : ℕ} (n : ℕ) → Named s next n inside → Skipped s inside r
      → Reached s r (set numbers depth n) (depth + 1) (count + 1) (set nodes count n)
  reached-open {inside} {r} n k m =
      let deep : depth < length numbers = omega (arith, h.numbered.long, h.numbered.deep) in
      record {
        to = m.to;
        ends = m.ends;
        goes = rw (pushed numbers depth n deep) (trans h.goes (trans (k.goes (open_in numbers depth)) (m.goes (n ∷ open_in numbers depth))));
        numbered =
            record {
              long = length-set numbers depth n ∙ h.numbered.long;
              deep = omega (arith, h.few, h.filled.fits, h.filled.few);
              small = λ i j. below i j;
            };
        few = omega (arith, h.few);
        filled = on-filled (tag-filled n h.filled h.to k.from k.nodes) m.from m.nodes;
      }
    where
      below : (i : ℕ) → i < depth + 1 → get_or (set numbers depth n) i 0 < 100
      below i j = go (eqb i depth) refl
        where
          go : (t : Bool) → eqb i depth ≡ t → get_or (set numbers depth n) i 0 < 100
          go true e =
              rw (eqb-true i depth e, get_or-set_same numbers depth n 0 (omega (arith, h.numbered.long, h.numbered.deep))) k.small
          go false e =
              let le : i ≤ depth = omega arith in
              let lt = lt_of_le-ne le (eqb-false i depth e) in
              rw (get_or-set_other numbers depth i n 0 (eqb-false i depth e)) (h.numbered.small i lt)

  pub reached-close : {after r : ℕ} → Closes s next numbers depth after → Skipped s after r
      → Reached s r numbers (depth - 1) (count + 1) (set nodes count 0)
  reached-close {after} {r} k m =
      let p = pos_of_ne-zero k.some in
      record {
        to = m.to;
        ends = m.ends;
        goes = trans h.goes (rw (popped numbers depth k.some) (trans (k.shut.goes (open_in numbers (depth - 1))) (m.goes (open_in numbers (depth - 1)))));
        numbered = record { long = h.numbered.long; deep = omega (arith, h.numbered.deep); small = λ i j. h.numbered.small i (omega arith) };
        few = omega (arith, h.few);
        filled = on-filled (tag-filled 0 h.filled h.to k.shut.from k.shut.nodes) m.from m.nodes;
      }

  -- ---- the end

  pub reached-stuck : {place : ℕ} → Stuck s next (between (open_in numbers depth)) place → WrongAt s place
  reached-stuck k = stuck-wrong (stuck-after (omega arith) h.goes k)

  -- a byte that is no tag
  pub reached-other : next < length s → (class_at s next ≡ 2 → ⊥) → WrongAt s next
  reached-other l k = stuck-wrong (stray-stuck (omega arith) h.goes (h.ends l) l k)

  -- an element is open
  pub reached-early : next ≡ length s → (depth ≡ 0 → ⊥) → WrongAt s next
  reached-early e k = reached-stuck (rw (popped numbers depth k) (early-stuck s next (get_or numbers (depth - 1) 0) e (open_in numbers (depth - 1))))

  pub reached-right : {first : ℕ} → Skipped s 0 first → first < length s → next ≡ length s → depth ≡ 0 → (r : Elements) × Text s r
  reached-right f l e d =
      let g : Goes s 0 (between []) next (between []) = rw d at h.goes in
      goes-right f l g e
