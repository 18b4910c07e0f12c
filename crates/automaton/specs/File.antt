-- What reading an automaton's file gives (document 01, the walker file): its header, lines 1 to 9 of the table of refusals, and the order.
-- Interface: `header_of`, `counts_check`, `beyond`, `sets_check`, `layout_check`, `LaidOut`, `WithinLimits`, `signature_in`, `body_check`, `parsed`, `contents_after`, `read_automaton`.
use Rattle.std.specs.Prelude.{ℕ, ◌+◌, ◌*◌, ◌/◌, ◌^◌, ◌≤◌, Bool, not, List, ◌++◌, length, get_or, drop, eqb, Result, Ok, Err}
use Rattle.blocks.specs.Blocks.{half_at, word_at, content}
use Rattle.refusal.specs.Checks.{refuse_if, ◌and_then◌, check_each, Check}
use Rattle.refusal.specs.Lines.{file_check, kind_check, count_check, size_check, filler_check}
use Rattle.refusal.specs.declared.Fault.{Fault}
use Rattle.refusal.specs.declared.Refusal.{Refusal}
use Rattle.refusal.specs.declared.lines.Format.{Format}
use Rattle.model.specs.declared.Signature.{Signature}
use Rattle.automaton.specs.Rules.{rule_check}
use Rattle.automaton.specs.declared.Header.{Header}

-- file 0, kind 87, at most 3,072 bytes, zero at the offsets 3, 6 and 7
abbrev pub format : Format
format = record { file = 0; kind = 87; most = 3072; zeros = 2 ^ 3 + 2 ^ 6 + 2 ^ 7 }

-- the counts and the sets, from the joined contents
unfoldable pub header_of : List ℕ → Header
header_of p =
    record {
      states = get_or p 1 0;
      symbols = get_or p 2 0;
      rules = half_at p 4;
      initial = word_at p 8;
      accepting = word_at p 12;
      branches = word_at p 16;
    }

-- the length of the payload: five bytes a rule, from offset 20
abbrev pub payload : Header → ℕ
payload h = 20 + 5 * h.rules

-- 4: states 1 to 24, symbols 1 to 32, rules 0 to 512; at the offset of the first that is outside
unfoldable pub counts_check : Header → Check
counts_check h = count_check format h.states 1 24 1 and_then count_check format h.symbols 1 32 2 and_then count_check format h.rules 0 512 4

-- a set has a bit at or above its count: something is left of it without its lowest bits
abbrev pub beyond : (count set : ℕ) → Bool
beyond count set = not (eqb (set / 2 ^ count) 0)

-- 7: a set has a bit at or above its count; at the first such set
unfoldable pub sets_check : Header → Check
sets_check h =
    refuse_if (beyond h.states h.initial) Fault.Set 0 8
    and_then refuse_if (beyond h.states h.accepting) Fault.Set 0 12
    and_then refuse_if (beyond h.symbols h.branches) Fault.Set 0 16

-- 8 and 9, rule by rule
unfoldable pub rules_check : Header → List ℕ → Check
rules_check h p = check_each (rule_check h p) h.rules

-- 3 to 5
unfoldable pub layout_check : Header → List ℕ → Check
layout_check h p = kind_check format p and_then counts_check h and_then size_check format (payload h) p

-- what contents have that 3 to 5 do not refuse: counts within their limits, and room for the rules
pub record LaidOut (h : Header) (p : List ℕ) : Type 0 where
  pub states : h.states ≤ 24
  pub symbols : h.symbols ≤ 32
  pub few : h.rules ≤ 512
  pub rules : payload h ≤ length p

-- counts that line 4 passes are within these
abbrev pub WithinLimits : Header → Type 0
WithinLimits h = (h.states ≤ 24) × (h.symbols ≤ 32)

-- the symbols that trees are read against
abbrev pub signature_in : Header → Signature
signature_in h = record { symbols = h.symbols; branches = h.branches }

-- 6 to 9
unfoldable pub body_check : Header → List ℕ → Check
body_check h p = filler_check format (payload h) p and_then sets_check h and_then rules_check h p

abbrev pub read_of : Check → Header → Result Header Refusal
read_of (Ok tt) h = Ok h
read_of (Err r) h = Err r

-- reading a file: the first line that refuses it, else its header
unfoldable pub parsed : List ℕ → Result Header Refusal
parsed s =
    let p = content s in
    let h = header_of p in
    read_of (file_check format s and_then layout_check h p and_then body_check h p) h

-- what a lent buffer holds afterwards: the joined contents at its front; on a refusal, what it held
abbrev pub contents_after : Result Header Refusal → (file buffer : List ℕ) → List ℕ
contents_after (Ok h) file buffer = content file ++ drop (length (content file)) buffer
contents_after (Err r) file buffer = buffer

-- ---- what is answered to a file

-- to a refused one by its refusal, to any other by its header and the joined contents: every answer to an automaton's file goes by this
module _ {ℓ} {X : Type ℓ} where
  abbrev pub by_reading : Result Header Refusal → (contents : List ℕ) → (refused : Refusal → X) → (read : Header → (contents : List ℕ) → X) → X
  by_reading (Ok h) contents refused read = read h contents
  by_reading (Err r) contents refused read = refused r

  abbrev pub read_automaton : (file : List ℕ) → (refused : Refusal → X) → (read : Header → (contents : List ℕ) → X) → X
  read_automaton file refused read = by_reading (parsed file) (content file) refused read
