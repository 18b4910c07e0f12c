-- Reading the file of a header and rules gives that header and those rules, where they pass the table.
-- Assumes nothing.
use Rattle.std.proofs.Common.{Some, None, Ok}
use Prim.Native.Nat.{ℕ, zero, suc, ◌+◌, ◌*◌, ◌/◌, ◌%◌, ◌^◌, ◌<◌, ◌≤◌}
use native.Mathlib.Omega.{arith}
use native.Mathlib.Nat.{one-mul, div-eq_of_lt, div-lt_iff_lt-mul, lt_of_lt_of_le}
use mathlib.Core.Path.{◌≡◌, refl, sym, ap, ◌∙◌}
use mathlib.Core.Bool.{false, ◌&&◌}
use mathlib.Core.List.{List, [], ◌∷◌, map}
use lib.Dec.{ltb}
use lib.Pow.{pow_pos, pow_mono}
use lib.ListN.{length, get_or}
use borrow.Author.Tests.{lt-ltb, eqb-true, not-false}
use Rattle.blocks.specs.Blocks.{content}
use Rattle.blocks.specs.FileOf.{file_of, word_bytes}
use Rattle.blocks.proofs.Written.{word-bytes, file-content-at}
use Rattle.refusal.specs.Checks.{◌and_then◌, refuse_if}
use Rattle.refusal.specs.Lines.{kind_check}
use Rattle.refusal.specs.declared.Fault.{Fault}
use Rattle.refusal.proofs.Cases.{each-passes}
use Rattle.refusal.proofs.Passed.{both-passed, if-passed}
use Rattle.refusal.proofs.Written.{Payload, written-passes}
use Rattle.automaton.specs.File.{format, header_of, payload, beyond, sets_check, rules_check, layout_check, body_check, parsed}
use Rattle.automaton.specs.Payload.{place_byte, move_byte, records_of, payload_of}
use Rattle.automaton.specs.Rules.{sort_place, sort_move, sorted, known_if, rule_at, rule_check}
use Rattle.automaton.specs.declared.Header.{Header}
use Rattle.automaton.specs.declared.Rule.{Rule}
use Rattle.automaton.proofs.Bytes.{sort-place, sort-move}
use Rattle.automaton.proofs.Passed.{Limits, counts-limit}
use Rattle.automaton.proofs.Records.{records-length}
use Rattle.automaton_writer.proofs.Bytes.{payload-length, record-byte}
use Rattle.automaton_writer.specs.ReadsBack.{Fits, FitsEach, Passing, ReadsBack}

-- ---- the bytes of rules

-- rule i of the list, and its five bytes
record RuleAt (h : Header) (rs : List Rule) (i : ℕ) : Type 0 where
  rule : Rule
  fits : Fits h rule
  known : get_or (map Some rs) i None ≡ Some rule
  symbol : get_or (records_of rs) (5 * i) 0 ≡ rule.symbol.0
  state : get_or (records_of rs) (5 * i + 1) 0 ≡ rule.state.0
  place : get_or (records_of rs) (5 * i + 2) 0 ≡ place_byte rule.scope
  step : get_or (records_of rs) (5 * i + 3) 0 ≡ move_byte rule.step
  next : get_or (records_of rs) (5 * i + 4) 0 ≡ rule.next.0

-- five bytes on
on : (r : Rule) (rs : List Rule) (i j : ℕ) → i ≡ suc (suc (suc (suc (suc j)))) → get_or (records_of (r ∷ rs)) i 0 ≡ get_or (records_of rs) j 0
unfolding records_of
on r rs i j e = ap (λ (n : ℕ). get_or (records_of (r ∷ rs)) n 0) e

rule-at : (h : Header) (rs : List Rule) (i : ℕ) → FitsEach h rs → i < length rs → RuleAt h rs i
unfolding FitsEach records_of
rule-at h [] i f l = absurd (omega arith)
rule-at h (r ∷ rs) zero f l =
    record { rule = r; fits = f.0; known = refl; symbol = refl; state = refl; place = refl; step = refl; next = refl }
rule-at h (r ∷ rs) (suc j) f l =
    let a = rule-at h rs j f.1 (omega arith) in
    record {
      rule = a.rule;
      fits = a.fits;
      known = a.known;
      symbol = on r rs (5 * suc j) (5 * j) (omega arith) ∙ a.symbol;
      state = on r rs (5 * suc j + 1) (5 * j + 1) (omega arith) ∙ a.state;
      place = on r rs (5 * suc j + 2) (5 * j + 2) (omega arith) ∙ a.place;
      step = on r rs (5 * suc j + 3) (5 * j + 3) (omega arith) ∙ a.step;
      next = on r rs (5 * suc j + 4) (5 * j + 4) (omega arith) ∙ a.next;
    }

-- a rule that fits is known by its bytes
fits-known : (h : Header) (r : Rule) → Fits h r
    → known_if (ltb r.symbol.0 h.symbols && ltb r.state.0 h.states && ltb r.next.0 h.states)
    (sorted r.symbol.0 r.state.0 (sort_place (place_byte r.scope)) (sort_move (move_byte r.step)) r.next.0)
    ≡ Some r
fits-known h r f =
    rw (lt-ltb _ _ f.symbol, lt-ltb _ _ f.state, lt-ltb _ _ f.next, sort-place r.scope, sort-move r.step)

-- ---- the bytes of the header

-- a set with no bit at or above a count of at most 32 is a 32-bit word
set-fits : (count set : ℕ) → count ≤ 32 → beyond count set ≡ false → set < 4294967296
set-fits count set few e =
    let none : set / 2 ^ count ≡ 0 = eqb-true _ _ (not-false _ e) in
    let below : set / 2 ^ count < 1 = omega (arith, none) in
    let small : set < 2 ^ count = rw one-mul at ((div-lt_iff_lt-mul (pow_pos count)).0 below) in
    lt_of_lt_of_le small (pow_mono {i = count} {j = 32} few)

record SetsFit (h : Header) : Type 0 where
  initial : h.initial < 4294967296
  accepting : h.accepting < 4294967296
  branches : h.branches < 4294967296

sets-fit : (h : Header) → Limits h → sets_check h ≡ Ok tt → SetsFit h
unfolding sets_check
sets-fit h few e =
    let initial = refuse_if (beyond h.states h.initial) Fault.Set 0 8 in
    let accepting = refuse_if (beyond h.states h.accepting) Fault.Set 0 12 in
    let branches = refuse_if (beyond h.symbols h.branches) Fault.Set 0 16 in
    let first = both-passed initial (accepting and_then branches) e in
    let second = both-passed accepting branches first.1 in
    record {
      initial = set-fits h.states h.initial (omega (arith, few.states)) (if-passed _ Fault.Set 0 8 first.0);
      accepting = set-fits h.states h.accepting (omega (arith, few.states)) (if-passed _ Fault.Set 0 12 second.0);
      branches = set-fits h.symbols h.branches few.symbols (if-passed _ Fault.Set 0 16 second.1);
    }

-- offsets 3, 6 and 7 are the zero bytes, and they are 0
zero-bytes : (h : Header) (records : List ℕ) (i : ℕ) → 200 / 2 ^ i % 2 ≡ 1 → get_or (payload_of h records) i 0 ≡ 0
unfolding payload_of
zero-bytes h records zero e = absurd (omega arith)
zero-bytes h records (suc zero) e = absurd (omega arith)
zero-bytes h records (suc (suc zero)) e = absurd (omega arith)
zero-bytes h records (suc (suc (suc zero))) e = refl
zero-bytes h records (suc (suc (suc (suc zero)))) e = absurd (omega arith)
zero-bytes h records (suc (suc (suc (suc (suc zero))))) e = absurd (omega arith)
zero-bytes h records (suc (suc (suc (suc (suc (suc zero)))))) e = refl
zero-bytes h records (suc (suc (suc (suc (suc (suc (suc zero))))))) e = refl
zero-bytes h records (suc (suc (suc (suc (suc (suc (suc (suc i)))))))) e =
    let j = suc (suc (suc (suc (suc (suc (suc (suc i))))))) in
    let eight : 8 ≤ j = omega arith in
    let few : 200 < 2 ^ 8 = omega arith in
    let small : 200 < 2 ^ j = lt_of_lt_of_le few (pow_mono {i = 8} {j = j} eight) in
    absurd (omega (arith, e, div-eq_of_lt small))

-- ---- the file

module _ (h : Header) (rs : List Rule) (ok : Passing h rs) where
  bytes : List ℕ
  bytes = payload_of h (records_of rs)

  few : Limits h
  few = counts-limit h ok.counts

  bytes-length : length bytes ≡ payload h
  unfolding bytes
  bytes-length = payload-length h (records_of rs) ∙ omega (arith, records-length rs, ok.number)

  fits-file : Payload format bytes
  unfolding bytes
  fits-file =
      let n = bytes-length in
      record { some = omega (arith, n); most = omega (arith, n, few.rules); zeros = λ i l e. zero-bytes h (records_of rs) i e }

  joined : List ℕ
  joined = content (file_of bytes)

  joined_at : (i : ℕ) → get_or joined i 0 ≡ get_or bytes i 0
  unfolding joined
  joined_at i = file-content-at bytes i

  header_is : header_of joined ≡ h
  unfolding header_of bytes payload_of word_bytes
  header_is =
      let fit = sets-fit h few ok.sets in
      let i = word-bytes h.initial fit.initial in
      let a = word-bytes h.accepting fit.accepting in
      let b = word-bytes h.branches fit.branches in
      let r : h.rules % 256 + 256 * (h.rules / 256) ≡ h.rules = omega arith in
      rw (joined_at 1, joined_at 2, joined_at 4, joined_at 5, joined_at 8, joined_at 9, joined_at 10, joined_at 11)
      (rw (joined_at 12, joined_at 13, joined_at 14, joined_at 15, joined_at 16, joined_at 17, joined_at 18, joined_at 19)
      (rw (i, a, b, r)))

  at : (i j : ℕ) → i ≡ 20 + j → get_or joined i 0 ≡ get_or (records_of rs) j 0
  unfolding bytes
  at i j e = joined_at i ∙ record-byte h (records_of rs) i j e

  rule-known : (i : ℕ) (a : RuleAt h rs i) → rule_at h joined i ≡ Some a.rule
  unfolding rule_at
  rule-known i a =
      let b0 = at (20 + 5 * i) (5 * i) refl ∙ a.symbol in
      let b1 = at (20 + 5 * i + 1) (5 * i + 1) (omega arith) ∙ a.state in
      let b2 = at (20 + 5 * i + 2) (5 * i + 2) (omega arith) ∙ a.place in
      let b3 = at (20 + 5 * i + 3) (5 * i + 3) (omega arith) ∙ a.step in
      let b4 = at (20 + 5 * i + 4) (5 * i + 4) (omega arith) ∙ a.next in
      rw (b0, b1, b2, b3, b4) (fits-known h a.rule a.fits)

  rule-is : (i : ℕ) → i < length rs → rule_at h joined i ≡ get_or (map Some rs) i None
  rule-is i l = let a = rule-at h rs i ok.rules l in rule-known i a ∙ sym a.known

  rule-passes : (i : ℕ) → i < h.rules → rule_check h joined i ≡ Ok tt
  unfolding rule_check
  rule-passes i l =
      let a = rule-at h rs i ok.rules (omega (arith, ok.number)) in
      rw (rule-known i a, a.fits.placed)

  rules-pass : rules_check h joined ≡ Ok tt
  unfolding rules_check
  rules-pass = each-passes (rule_check h joined) 0 h.rules (λ i lo hi. rule-passes i (omega arith))

  kind-passes : kind_check format joined ≡ Ok tt
  unfolding kind_check bytes payload_of
  kind-passes = rw (joined_at 0)

  layout-passes : layout_check h joined ≡ Ok tt
  unfolding layout_check joined
  layout-passes = rw (kind-passes, ok.counts, ← bytes-length) (written-passes format bytes fits-file).size

  body-passes : body_check h joined ≡ Ok tt
  unfolding body_check joined
  body-passes = rw (← bytes-length, (written-passes format bytes fits-file).filler, ok.sets, rules-pass)

  pub reads_back : ReadsBack h rs
  unfolding parsed joined bytes
  reads_back =
      record {
        read = rw (header_is, (written-passes format bytes fits-file).file, layout-passes, body-passes);
        rules = rule-is;
      }
