-- Why a file is unpacked: bytes that are joined to 0 are 0, line 6 then passes, and what passes lines 1 to 6 is read but for lines 10 to 12.
-- Assumes nothing.
use Rattle.std.proofs.Common.{Ok}
use Prim.Native.Nat.{ℕ, zero, suc, ◌+◌, ◌/◌, ◌%◌, ◌^◌, ◌≤◌, ◌<◌}
use native.Mathlib.Decide.{ℕ_discrete, dec_lt}
use native.Mathlib.Nat.{div-eq_of_lt, lt_of_lt_of_le}
use native.Mathlib.Omega.{arith}
use mathlib.Core.Path.{◌≡◌, refl, sym, ap, ◌∙◌}
use mathlib.Core.Bool.{Bool, true, false, not, ◌&&◌}
use mathlib.Core.List.{List, ◌++◌}
use borrow.Author.Tests.{lt-leb}
use lib.Bits.{bit_or, or_add_and, and_le_l, and_le_r}
use lib.Dec.{eqb, lit<}
use lib.ListN.{length, take, drop, get_or, length-append, length-drop}
use lib.Pow.{pow_mono}
use lib.Seq.{take-append-le, drop-append-le}
use Rattle.blocks.specs.Blocks.{content}
use Rattle.blocks.proofs.Laws.{find-nothing}
use Rattle.model.specs.declared.Signature.{Signature}
use Rattle.refusal.specs.Lines.{file_check, must_be_zero, not_zero, filler_check}
use Rattle.nodes.specs.Nodes.{nodes_check}
use Rattle.tree.specs.File.{tree_format, count_of, nodes_of, layout_check, body_check, read_tree}
use Rattle.tree.specs.Unpacked.{Clear, Unpacked}
use Rattle.tree.proofs.Reading.{layout-passed, nodes-length}

-- ---- bytes that are joined

both_zero : {o n a b : ℕ} → o + n ≡ a + b → n ≤ a → n ≤ b → o ≡ 0 → (a ≡ 0) × (b ≡ 0)
both_zero e l m z = (omega arith, omega arith)

or-is-zero : (a b : ℕ) → bit_or a b ≡ 0 → (a ≡ 0) × (b ≡ 0)
or-is-zero a b z = both_zero (or_add_and a b) (and_le_l a b) (and_le_r a b) z

-- the bytes from `end` on, up to `at`, are 0
abbrev pub ZeroTo : (p : List ℕ) (end at : ℕ) → Type 0
ZeroTo p end at = (j : ℕ) → end ≤ j → j < at → get_or p j 0 ≡ 0

pub zero_more : (p : List ℕ) (end at all : ℕ) → (all ≡ 0 → ZeroTo p end at) → bit_or all (get_or p at 0) ≡ 0 → ZeroTo p end (at + 1)
zero_more p end at all before z j lo hi = go (dec_lt j at)
  where
    both : (all ≡ 0) × (get_or p at 0 ≡ 0)
    both = or-is-zero all (get_or p at 0) z

    go : Dec (j < at) → get_or p j 0 ≡ 0
    go (yes l) = before both.0 j lo l
    go (no l) = let same : j ≡ at = omega arith in rw same both.1

-- ---- line 6

no_zero : (b : Bool) {n : ℕ} → n ≡ 0 → (b && not (eqb n 0)) ≡ false
no_zero true e = rw e
no_zero false e = refl

-- of the header's bytes, the one at offset 1 alone has to be zero
other-bit : (j : ℕ) → (j ≡ 1 → ⊥) → 2 ^ 1 / 2 ^ j % 2 ≡ 0
other-bit zero h = refl
other-bit (suc zero) h = absurd (h refl)
other-bit (suc (suc j)) h =
    let less : 2 ^ 1 < 2 ^ 2 = lit< tt in
    let later : 2 ≤ suc (suc j) = omega arith in
    let none : 2 ^ 1 / 2 ^ suc (suc j) ≡ 0 = div-eq_of_lt (lt_of_lt_of_le less (pow_mono later)) in
    ap (λ (n : ℕ). n % 2) none

module _ (p : List ℕ) (end : ℕ) (second : get_or p 1 0 ≡ 0) (rest : ZeroTo p end (length p)) where
  none : (j : ℕ) → j < length p → not_zero (2 ^ 1) end p j ≡ false
  unfolding not_zero must_be_zero
  none j hi = go (dec_lt j end) (ℕ_discrete j 1)
    where
      go : Dec (j < end) → Dec (j ≡ 1) → (must_be_zero (2 ^ 1) end j && not (eqb (get_or p j 0) 0)) ≡ false
      go d (yes e) = no_zero (must_be_zero (2 ^ 1) end j) (ap (λ (i : ℕ). get_or p i 0) e ∙ second)
      go (no l) (no m) = no_zero (must_be_zero (2 ^ 1) end j) (rest j (omega arith) hi)
      go (yes l) (no m) = rw (other-bit j m, lt-leb _ _ l)

  pub clear-passes : filler_check tree_format end p ≡ Ok tt
  unfolding filler_check
  clear-passes = rw (find-nothing (not_zero (2 ^ 1) end p) 0 (length p) (λ j lo hi. none j (omega arith)))

-- ---- what is unpacked

-- contents at the front of a buffer: their nodes
front-nodes : (k : ℕ) (p rest : List ℕ) → 4 + k ≤ length p → take k (drop 4 (p ++ rest)) ≡ nodes_of k p
front-nodes k p rest h =
    ap (take k) (drop-append-le 4 p rest (omega arith)) ∙ take-append-le k (drop 4 p) rest (simp length-drop (omega arith))

-- lines 10 to 12 are all that is left
nodes-left : (sg : Signature) (s : List ℕ) → file_check tree_format s ≡ Ok tt → layout_check (content s) ≡ Ok tt →
    filler_check tree_format (4 + count_of (content s)) (content s) ≡ Ok tt → nodes_check sg (nodes_of (count_of (content s)) (content s)) ≡ Ok tt
    → read_tree sg s ≡ Ok (count_of (content s))
unfolding read_tree body_check
nodes-left sg s file layout filler nodes = rw (file, layout, filler, nodes)

pub unpacked : (s : List ℕ) (k : ℕ) (buffer rest : List ℕ) → file_check tree_format s ≡ Ok tt → Clear (content s) k
    → buffer ≡ content s ++ rest → Unpacked s k buffer
unpacked s k buffer rest file clear joined =
    let p = content s in
    let laid_out = layout-passed p clear.layout in
    let nodes : 4 + k ≤ length p = rw clear.count laid_out.nodes in
    record {
      some = rw clear.count laid_out.some;
      few = rw clear.count laid_out.most;
      size = rw joined (simp length-append (omega arith));
      nodes = rw joined (front-nodes k p rest nodes);
      length_is = nodes-length k p nodes;
      reads = λ sg passed.
          let same = ap (λ (m : ℕ). nodes_check sg (nodes_of m p)) (sym clear.count) in
          nodes-left sg s file clear.layout clear.filler (same ∙ passed) ∙ ap Ok (sym clear.count);
    }
