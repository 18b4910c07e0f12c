-- Lines 1, 2, 5 and 6 pass the file that is written of a payload, and what lines 3 and 4 read there is the payload's.
-- Assumes nothing.
use Rattle.std.proofs.Common.{Ok}
use Prim.Native.Nat.{ℕ, ◌+◌, ◌*◌, ◌/◌, ◌%◌, ◌^◌, ◌<◌, ◌≤◌}
use native.Mathlib.Decide.{dec_lt}
use native.Mathlib.Omega.{arith}
use mathlib.Core.Path.{◌≡◌, refl, ap}
use mathlib.Core.Bool.{Bool, true, false, not, ◌&&◌}
use mathlib.Core.List.{List}
use borrow.Author.Tests.{eq-eqb, ne_eqb, le-ltb, lt-leb, eqb-true}
use lib.Dec.{eqb}
use lib.ListN.{length, get_or, get_or-eq_default}
use Rattle.blocks.specs.Blocks.{content}
use Rattle.blocks.specs.FileOf.{file_of}
use Rattle.blocks.proofs.Laws.{find-nothing}
use Rattle.blocks.proofs.Written.{file-length, file-content-at, file-content-length, checks-right}
use Rattle.refusal.specs.Lines.{length_check, blocks_check, file_check, size_check, must_be_zero, not_zero, filler_check, blocks_needed}
use Rattle.refusal.specs.declared.lines.Format.{Format}

-- a payload that a file of the format can hold: some bytes, no more blocks than the format has, and 0 at each zero byte
pub record Payload (f : Format) (p : List ℕ) : Type 0 where
  pub some : 0 < length p
  pub most : 512 * blocks_needed (length p) ≤ f.most
  pub zeros : (i : ℕ) → i < length p → f.zeros / 2 ^ i % 2 ≡ 1 → get_or p i 0 ≡ 0

pub record WrittenPasses (f : Format) (p : List ℕ) : Type 0 where
  pub file : file_check f (file_of p) ≡ Ok tt
  pub size : size_check f (length p) (content (file_of p)) ≡ Ok tt
  pub filler : filler_check f (length p) (content (file_of p)) ≡ Ok tt

module _ (f : Format) (p : List ℕ) (h : Payload f p) where
  file-passes : file_check f (file_of p) ≡ Ok tt
  unfolding file_check length_check blocks_check
  file-passes =
      let n = length (file_of p) in
      let e : n ≡ 512 * ((length p + 507) / 508) = file-length p in
      let some : n ≡ 0 → ⊥ = λ z. omega (arith, e, h.some) in
      let whole : n % 512 ≡ 0 = omega (arith, e) in
      let small : n ≤ f.most = omega (arith, e, h.most) in
      rw (ne_eqb n 0 some, eq-eqb (n % 512) 0 whole, le-ltb f.most n small, checks-right p)

  size-passes : size_check f (length p) (content (file_of p)) ≡ Ok tt
  unfolding size_check
  size-passes =
      let n = length (content (file_of p)) in
      let e : n / 508 ≡ blocks_needed (length p) = omega (arith, file-content-length p) in
      rw (eq-eqb (n / 508) (blocks_needed (length p)) e)

  -- a byte that must be zero is
  byte-passes : (i : ℕ) → not_zero f.zeros (length p) (content (file_of p)) i ≡ false
  unfolding not_zero must_be_zero
  byte-passes i = rw (file-content-at p i) (go (dec_lt i (length p)) (eqb (f.zeros / 2 ^ i % 2) 1) refl)
    where
      and_zero : (a : Bool) → get_or p i 0 ≡ 0 → (a && not (eqb (get_or p i 0) 0)) ≡ false
      and_zero true e = ap not (eq-eqb (get_or p i 0) 0 e)
      and_zero false e = refl

      go : Dec (i < length p) → (t : Bool) → eqb (f.zeros / 2 ^ i % 2) 1 ≡ t
          → (must_be_zero f.zeros (length p) i && not (eqb (get_or p i 0) 0)) ≡ false
      go (yes l) true e = and_zero (must_be_zero f.zeros (length p) i) (h.zeros i l (eqb-true (f.zeros / 2 ^ i % 2) 1 e))
      go (yes l) false e = rw (e, lt-leb (length p) i l)
      go (no l) t e = and_zero (must_be_zero f.zeros (length p) i) (get_or-eq_default p 0 (omega arith))

  filler-passes : filler_check f (length p) (content (file_of p)) ≡ Ok tt
  unfolding filler_check
  filler-passes =
      rw (find-nothing (not_zero f.zeros (length p) (content (file_of p))) 0 (length (content (file_of p))) (λ i lo hi. byte-passes i))

  pub written-passes : WrittenPasses f p
  written-passes = record { file = file-passes; size = size-passes; filler = filler-passes }
