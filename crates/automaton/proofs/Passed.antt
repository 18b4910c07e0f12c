-- What is known where lines 3 to 9 passed, up to a file that reads.
-- Assumes nothing.
use Rattle.std.proofs.Common.{Option, Some, None, Result, Ok, Err}
use Prim.Native.Nat.{ℕ, ◌+◌, ◌*◌, ◌<◌, ◌≤◌}
use mathlib.Core.Path.{◌≡◌, refl, sym, ap}
use mathlib.Core.Bool.{Bool, true, false, ◌&&◌}
use mathlib.Core.List.{List}
use native.Mathlib.Omega.{arith}
use borrow.Author.Tests.{ltb-true}
use lib.Dec.{ltb}
use lib.ListN.{length, get_or, take, length-take}
use Rattle.blocks.specs.Blocks.{content}
use Rattle.blocks.proofs.Laws.{joined_is}
use Rattle.refusal.specs.Checks.{◌and_then◌, Check}
use Rattle.refusal.specs.Lines.{file_check, kind_check, count_check, size_check, filler_check}
use Rattle.refusal.specs.declared.Fault.{Fault}
use Rattle.refusal.proofs.Passed.{clash, both-passed, if-passed, and-is-true, each-passed, FileSize, file-passed, count-passed, size-passed}
use Rattle.automaton.specs.Rules.{rule, sorted, known_if, rule_at, sort_place, sort_move, misplaced, rule_refusal, rule_check}
use Rattle.automaton.specs.File.{format, payload, counts_check, layout_check, LaidOut, WithinLimits, sets_check, rules_check, body_check, header_of, read_of, parsed, contents_after}
use Rattle.automaton.specs.declared.Header.{Header}
use Rattle.automaton.specs.declared.Rule.{Rule}
use Rattle.model.specs.declared.Move.{Move}
use Rattle.refusal.specs.declared.Refusal.{Refusal}
use Rattle.automaton.specs.declared.Scope.{Scope}

-- line 4 passed each count
pub record CountsPassed (h : Header) : Type 0 where
  pub states : count_check format h.states 1 24 1 ≡ Ok tt
  pub symbols : count_check format h.symbols 1 32 2 ≡ Ok tt
  pub rules : count_check format h.rules 0 512 4 ≡ Ok tt

pub counts-passed : (h : Header) → counts_check h ≡ Ok tt → CountsPassed h
unfolding counts_check
counts-passed h e =
    let states = count_check format h.states 1 24 1 in
    let symbols = count_check format h.symbols 1 32 2 in
    let rules = count_check format h.rules 0 512 4 in
    let first = both-passed states (symbols and_then rules) e in
    let second = both-passed symbols rules first.1 in
    record { states = first.0; symbols = second.0; rules = second.1 }

-- and so each is within its limit
pub record Limits (h : Header) : Type 0 where
  pub states : h.states ≤ 24
  pub symbols : h.symbols ≤ 32
  pub rules : h.rules ≤ 512

pub counts-limit : (h : Header) → counts_check h ≡ Ok tt → Limits h
counts-limit h e =
    let c = counts-passed h e in
    record {
      states = (count-passed format h.states 1 24 1 c.states).1;
      symbols = (count-passed format h.symbols 1 32 2 c.symbols).1;
      rules = (count-passed format h.rules 0 512 4 c.rules).1;
    }

-- lines 4 and 5 passed
layout-both : (h : Header) (p : List ℕ) → layout_check h p ≡ Ok tt → (counts_check h ≡ Ok tt) × (size_check format (payload h) p ≡ Ok tt)
unfolding layout_check
layout-both h p e =
    both-passed (counts_check h) (size_check format (payload h) p) (both-passed (kind_check format p) (counts_check h and_then size_check format (payload h) p) e).1

pub layout-passed : (h : Header) (p : List ℕ) → layout_check h p ≡ Ok tt → LaidOut h p
layout-passed h p e =
    let both = layout-both h p e in
    let within = counts-limit h both.0 in
    record { states = within.states; symbols = within.symbols; few = within.rules; rules = size-passed format (payload h) p both.1 }

-- ---- a rule that is known has numbers below the counts

pub record InCounts (h : Header) (r : Rule) : Type 0 where
  pub symbol : r.symbol.0 < h.symbols
  pub state : r.state.0 < h.states
  pub next : r.next.0 < h.states

sorted-in : (h : Header) (symbol state next : ℕ) (place : Option Scope) (step : Option Move) (r : Rule)
    → (ltb symbol h.symbols && ltb state h.states && ltb next h.states) ≡ true
    → sorted symbol state place step next ≡ Some r → InCounts h r
sorted-in h symbol state next (Some scope) (Some step) r t e =
    let same : rule symbol state scope step next ≡ r = cc in
    let both = and-is-true (ltb symbol h.symbols && ltb state h.states) (ltb next h.states) t in
    let first = and-is-true (ltb symbol h.symbols) (ltb state h.states) both.0 in
    rw (← same) (record { symbol = ltb-true _ _ first.0; state = ltb-true _ _ first.1; next = ltb-true _ _ both.1 })
sorted-in h symbol state next (Some scope) None r t e = clash (cc)
sorted-in h symbol state next None step r t e = clash (cc)

known-if : (t : Bool) (a : Option Rule) (r : Rule) → known_if t a ≡ Some r → (t ≡ true) × (a ≡ Some r)
known-if true a r e = (refl, e)
known-if false a r e = clash (cc)

pub rule-in : (h : Header) (p : List ℕ) (i : ℕ) (r : Rule) → rule_at h p i ≡ Some r → InCounts h r
unfolding rule_at
rule-in h p i r e =
    let at = 20 + 5 * i in
    let known = known-if _ _ r e in
    sorted-in h (get_or p at 0) (get_or p (at + 1) 0) (get_or p (at + 4) 0) (sort_place (get_or p (at + 2) 0)) (sort_move (get_or p (at + 3) 0)) r known.0 known.1

-- ---- a file that reads

pub record KnownRule (h : Header) (p : List ℕ) (i : ℕ) : Type 0 where
  pub rule : Rule
  pub known : rule_at h p i ≡ Some rule
  pub placed : misplaced h.branches rule ≡ false

rule-passed : (h : Header) (p : List ℕ) (i : ℕ) → rule_check h p i ≡ Ok tt → KnownRule h p i
unfolding rule_check
rule-passed h p i e = go (rule_at h p i) refl e
  where
    go : (bytes : Option Rule) → rule_at h p i ≡ bytes → rule_refusal h.branches i bytes ≡ Ok tt → KnownRule h p i
    go None known passed = clash (cc)
    go (Some rule) known passed = record { rule = rule; known = known; placed = if-passed _ Fault.Move 0 i passed }

read-of : (c : Check) (h h' : Header) → read_of c h ≡ Ok h' → (c ≡ Ok tt) × (h ≡ h')
read-of (Ok tt) h h' e = (refl, cc)
read-of (Err r) h h' e = clash (cc)

-- the file is of its size, the header is the contents', the counts are within their limits, lines 4 and 7 passed, and every rule is known and well placed
pub record FileRead (s : List ℕ) (h : Header) : Type 0 where
  pub size : FileSize format (length s)
  pub header : header_of (content s) ≡ h
  pub laid_out : LaidOut h (content s)
  pub counts : counts_check h ≡ Ok tt
  pub sets : sets_check h ≡ Ok tt
  pub rules : (i : ℕ) → i < h.rules → KnownRule h (content s) i

pub file-read : (s : List ℕ) (h : Header) → parsed s ≡ Ok h → FileRead s h
unfolding parsed body_check rules_check
file-read s h e =
    let p = content s in
    let g = header_of p in
    let body = filler_check format (payload g) p and_then sets_check g and_then rules_check g p in
    let read = read-of (file_check format s and_then layout_check g p and_then body) g h e in
    let first = both-passed (file_check format s) (layout_check g p and_then body) read.0 in
    let both = both-passed (layout_check g p) body first.1 in
    let rest = (both-passed (filler_check format (payload g) p) (sets_check g and_then rules_check g p) both.1).1 in
    let last = both-passed (sets_check g) (rules_check g p) rest in
    rw (← read.1)
    (record {
      size = file-passed format s first.0;
      header = refl;
      laid_out = layout-passed g p both.0;
      counts = (layout-both g p both.0).0;
      sets = last.0;
      rules = λ i l. rule-passed g p i (each-passed (rule_check g p) 0 g.rules last.1 i (omega arith) (omega arith));
    })

pub file-limits : (s : List ℕ) (h : Header) → parsed s ≡ Ok h → WithinLimits h
file-limits s h e = let read = file-read s h e in (read.laid_out.states, read.laid_out.symbols)

-- what a buffer has at its front that was lent to the reader of a file that reads
pub contents-are : (s before after : List ℕ) (r : Result Header Refusal) (h : Header) (n : ℕ) → r ≡ Ok h → after ≡ contents_after r s before
    → n ≡ length (content s) → take n after ≡ content s
contents-are s before after r h n e a m = joined_is s n before after m (rw (e, sym m) at a)

-- and that the buffer is long enough for it
pub contents-fit : (s after : List ℕ) (n : ℕ) → n ≡ length (content s) → take n after ≡ content s → n ≤ length after
contents-fit s after n e t = omega (arith, length-take n after, ap length t, e)
