-- What is answered by rule records, of which the code has the bytes. Assumes nothing.
use Rattle.std.proofs.Common.{Ok, Err}
use Prim.Native.Nat.{ℕ, ◌+◌, ◌*◌, ◌/◌, ◌%◌, ◌≤◌}
use mathlib.Core.Path.{◌≡◌, sym, ap, ◌∙◌}
use mathlib.Core.List.{List, ◌++◌}
use native.Mathlib.Omega.{arith}
use lib.ListN.{length, take, drop}
use lib.Seq.{take_at}
use Rattle.blocks.specs.FileOf.{blocks_needed, file_of}
use Rattle.refusal.specs.declared.Refusal.{Refusal}
use Rattle.automaton.specs.Payload.{records_of, payload_of}
use Rattle.automaton.specs.declared.Header.{Header}
use Rattle.automaton.specs.declared.Rule.{Rule}
use Rattle.automaton.proofs.Records.{records-length}
use Rattle.block_writer.specs.Written.{filled}
use Rattle.block_writer.proofs.Answers.{told}
use Rattle.blocks.proofs.Stores.{sets-front}
use Rattle.rule_order.specs.Listed.{Room, Put}
use Rattle.canonical.specs.Canonical.{canonical_header, canonical_file, form_check, form_check_of, written_for}
use Rattle.canonical.proofs.OneForm.{form-is, of-passed}

-- records that pass are within the limits of the writer
pub records-fit : (records out : List ℕ) → length records % 5 ≡ 0 → form_check_of (length records / 5) (length out) ≡ Ok tt
    → (length records ≤ 2560) × (512 * blocks_needed (20 + length records) ≤ length out)
records-fit records out whole passed =
    let p = of-passed (length records / 5) (length out) passed in
    let e : 5 * (length records / 5) ≡ length records = omega arith in
    (omega (arith, p.0), rw e at p.1)

module _ (h : Header) (records : List ℕ) (rules : List Rule) (out : List ℕ) (is : records ≡ records_of rules) where
  count-is : length records / 5 ≡ length rules
  count-is = let n : length records ≡ 5 * length rules = ap length is ∙ records-length rules in omega arith

  pub stopped : (r : Refusal) → form_check_of (length records / 5) (length out) ≡ Err r → filled (Err r) out ≡ written_for h rules out
  unfolding written_for
  stopped r e =
      let check : form_check h rules (length out) ≡ Err r = form-is h rules (length out) ∙ ap (λ (k : ℕ). form_check_of k (length out)) (sym count-is) ∙ e in
      rw check

  pub written : (header : Header) (n : ℕ) (after : List ℕ) → form_check_of (length records / 5) (length out) ≡ Ok tt
      → header ≡ canonical_header h (length records / 5) → n ≡ length (file_of (payload_of header records)) → after ≡ file_of (payload_of header records) ++ drop n out
      → filled (Ok n) after ≡ written_for h rules out
  unfolding written_for
  written header n after passed same long bytes =
      let file : file_of (payload_of header records) ≡ canonical_file h rules =
      ap (λ (x : Header). file_of (payload_of x records)) (same ∙ ap (canonical_header h) count-is)
      ∙ ap (λ (x : List ℕ). file_of (payload_of (canonical_header h (length rules)) x)) is in
      let check : form_check h rules (length out) ≡ Ok tt = form-is h rules (length out) ∙ ap (λ (k : ℕ). form_check_of k (length out)) (sym count-is) ∙ passed in
      rw check (told n after (canonical_file h rules) out (long ∙ ap length file) (bytes ∙ ap (λ (x : List ℕ). x ++ drop n out) file))

-- the records at the front of the buffer
module _ (rules : List Rule) (before after : List ℕ) (r : ℕ) (room : Room rules before 0) (put : Put rules before 0 after r) where
  pub front-records : take r after ≡ records_of rules
  front-records =
      let n : length (records_of rules) ≡ r = omega (arith, records-length rules, put.0) in
      let front = sets-front (records_of rules) before r n (omega (arith, put.0, room)) in
      ap (take r) (put.1 ∙ front) ∙ take_at (records_of rules) (drop r before) r n

  pub front-whole : r % 5 ≡ 0
  front-whole = omega (arith, put.0)

  pub front_long : length (take r after) ≡ r
  front_long = ap length front-records ∙ omega (arith, records-length rules, put.0)
