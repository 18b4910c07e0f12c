-- The laws of document 02's W4, under its sentences. Assumes nothing.
use Rattle.std.proofs.Common.{Result, Ok, Err}
use Prim.Native.Nat.{ℕ, ◌+◌, ◌*◌, ◌<◌, ◌≤◌}
use mathlib.Core.Path.{◌≡◌, refl, sym, ap, subst, ◌∙◌}
use mathlib.Core.Logic.{◌↔◌}
use mathlib.Core.List.{List, ◌++◌}
use native.Mathlib.Omega.{arith}
use borrow.Author.Tests.{lt-ltb, le-ltb, ltb-false}
use lib.ListN.{length, take, drop}
use lib.Seq.{take_at}
use Rattle.blocks.specs.Blocks.{content}
use Rattle.blocks.specs.FileOf.{blocks_needed}
use Rattle.blocks.proofs.Written.{file-length}
use Rattle.refusal.specs.Checks.{refused, refuse_if, Check}
use Rattle.refusal.specs.declared.Fault.{Fault}
use Rattle.refusal.specs.declared.Refusal.{Refusal}
use Rattle.refusal.proofs.Passed.{clash, both-passed, if-passed}
use Rattle.automaton.specs.File.{parsed}
use Rattle.automaton.specs.Payload.{records_of, payload_of}
use Rattle.automaton.specs.declared.Header.{Header}
use Rattle.automaton.specs.declared.Rule.{Rule}
use Rattle.automaton.proofs.Records.{records-length}
use Rattle.automaton_writer.specs.ReadsBack.{automaton_file}
use Rattle.automaton_writer.proofs.Bytes.{payload-length}
use Rattle.transitions.specs.Transitions.{by_automaton}
use Rattle.transitions.specs.Spread.{spread_rules, SameRules, SameCounts}
use Rattle.algorithms.specs.Automaton.{Automaton}
use Rattle.determinism.specs.Single.{single_if, single_of}
use Rattle.determinism.proofs.RepeatedRecords.{same-single, same_answer}
use Rattle.membership.specs.Judged.{judged_by, judged}
use Rattle.membership.specs.Grown.{growth_by, growth_judged}
use Rattle.emptiness.specs.Surveyed.{answered, surveyed_by, surveyed}
use Rattle.emptiness.specs.Checked.{checked_by, checked}
use Rattle.block_writer.specs.Written.{room_check, Filled, filled, filled_after}
use Rattle.block_writer.proofs.Answers.{room-enough, room-passed, after-bytes, after_kept}
use Rattle.rule_order.proofs.Ordering.{same_back, same-on, ordered-rising, ordered_same, ordered-is}
use Rattle.canonical.specs.Canonical.{remaining, canonical_header, canonical_file, many_check, form_check, form_check_of, written_for, canonical_of}
use Rattle.canonical.specs.Promise.{FormWritten, Promise}
use Rattle.canonical.proofs.Form.{remaining-placed, form-reads, form-spread, form-again}

-- ---- the checks, and an answer back to them

-- the length of the file, by how many rules it holds
pub form-long : (h : Header) (rules : List Rule) → length (canonical_file h rules) ≡ 512 * blocks_needed (20 + 5 * length rules)
form-long h rules =
    let header = canonical_header h (length rules) in
    let n : length (payload_of header (records_of rules)) ≡ 20 + 5 * length rules =
    payload-length header (records_of rules) ∙ ap (λ (k : ℕ). 20 + k) (records-length rules) in
    file-length (payload_of header (records_of rules)) ∙ ap (λ (k : ℕ). 512 * blocks_needed k) n

pub of-many : (n room : ℕ) → 512 < n → form_check_of n room ≡ refused Fault.Rules 2 0
unfolding form_check_of
of-many n room l = rw (lt-ltb 512 n l)

pub of-few : (n room : ℕ) → n ≤ 512 → form_check_of n room ≡ room_check (512 * blocks_needed (20 + 5 * n)) room
unfolding form_check_of
of-few n room l = rw (le-ltb 512 n l)

-- both, for the proof of `form_check`
pub ruleset by_number = (of-many, of-few)

pub of-passed : (n room : ℕ) → form_check_of n room ≡ Ok tt → (n ≤ 512) × (512 * blocks_needed (20 + 5 * n) ≤ room)
unfolding form_check_of
of-passed n room e =
    let both = both-passed (refuse_if (lib.Dec.ltb 512 n) Fault.Rules 2 0) (room_check (512 * blocks_needed (20 + 5 * n)) room) e in
    (ltb-false 512 n (if-passed _ Fault.Rules 2 0 both.0), room-passed (512 * blocks_needed (20 + 5 * n)) room both.1)

-- the checks go by the number of rules alone
pub form-is : (h : Header) (rules : List Rule) (room : ℕ) → form_check h rules room ≡ form_check_of (length rules) room
unfolding form_check form_check_of
form-is h rules room = rw (form-long h rules)

pub read_is : (s out : List ℕ) (h : Header) → parsed s ≡ Ok h → canonical_of s out ≡ written_for h (remaining h (content s)) out
unfolding canonical_of
read_is s out h e = rw e

pub refused-is : (s out : List ℕ) (r : Refusal) → parsed s ≡ Err r → canonical_of s out ≡ filled (Err r) out
unfolding canonical_of
refused-is s out r e = rw e

-- a file was written: the input reads, 512 of its rules remain at the most, and it is the file of these
pub record Formed (s out : List ℕ) (n : ℕ) : Type 0 where
  pub header : Header
  pub read : parsed s ≡ Ok header
  pub few : length (remaining header (content s)) ≤ 512
  pub long : n ≡ length (canonical_file header (remaining header (content s)))
  pub bytes : (canonical_of s out).out ≡ canonical_file header (remaining header (content s)) ++ drop n out
  pub front : take n (canonical_of s out).out ≡ canonical_file header (remaining header (content s))

pub formed : (s out : List ℕ) (n : ℕ) → (canonical_of s out).answer ≡ Ok n → Formed s out n
unfolding written_for
formed s out n told = by (parsed s) refl
  where
    by : (p : Result Header Refusal) → parsed s ≡ p → Formed s out n
    by (Err r) e = let o = ap (λ (x : Filled). x.answer) (refused-is s out r e) in clash (cc)
    by (Ok h) e =
        let rules = remaining h (content s) in
        let is = read_is s out h e in
        let a = after-bytes (form_check h rules (length out)) (canonical_file h rules) out n (ap (λ (x : Filled). x.answer) (sym is) ∙ told) in
        let bytes = ap (λ (x : Filled). x.out) is ∙ a.2 in
        record {
          header = h;
          read = e;
          few = (of-passed (length rules) (length out) (sym (form-is h rules (length out)) ∙ a.0)).0;
          long = a.1;
          bytes = bytes;
          front = ap (take n) bytes ∙ take_at (canonical_file h rules) (drop n out) n (sym a.1);
        }

-- ---- "Write a walker's one form: place 3 spread, repeats dropped, rules in rising order of their five bytes compared from the first, the same
-- counts of states and symbols, the same three sets." "Bytes after the output are unchanged." "A refused call leaves every lent byte as it was."

form-written : (s out : List ℕ) (n : ℕ) (f : Formed s out n) → FormWritten f.header (content s) out (canonical_of s out).out n
form-written s out n f =
    let h = f.header in
    let rules = remaining h (content s) in
    record {
      header = canonical_header h (length rules);
      rules = rules;
      long = f.long;
      bytes = f.bytes;
      reads_back = form-reads s h f.read f.few;
      counts = record { states = refl; symbols = refl; initial = refl; accepting = refl; branches = refl };
      number = refl;
      spread = remaining-placed s h f.read;
      same = ordered_same (spread_rules h (content s));
      rising = ordered-rising (spread_rules h (content s));
    }

kept : (s out : List ℕ) (r : Refusal) → (canonical_of s out).answer ≡ Err r → (canonical_of s out).out ≡ out
unfolding written_for
kept s out r told = by (parsed s) refl
  where
    by : (p : Result Header Refusal) → parsed s ≡ p → (canonical_of s out).out ≡ out
    by (Err q) e = ap (λ (x : Filled). x.out) (refused-is s out q e)
    by (Ok h) e =
        let rules = remaining h (content s) in
        let is = read_is s out h e in
        ap (λ (x : Filled). x.out) is
        ∙ after_kept (form_check h rules (length out)) (canonical_file h rules) out r (ap (λ (x : Filled). x.answer) (sym is) ∙ told)

unless_stopped : (s out : List ℕ) (h : Header) → parsed s ≡ Ok h → many_check (length (remaining h (content s))) ≡ Ok tt
    → room_check (length (canonical_file h (remaining h (content s)))) (length out) ≡ Ok tt
    → (canonical_of s out).answer ≡ Ok (length (canonical_file h (remaining h (content s))))
unfolding written_for form_check
unless_stopped s out h e many room =
    let both : form_check h (remaining h (content s)) (length out) ≡ Ok tt = rw (many, room) in
    ap (λ (x : Filled). x.answer) (read_is s out h e ∙ ap (λ (c : Check). filled_after c (canonical_file h (remaining h (content s))) out) both)

-- ---- what is written reads without refusal, and its spread rules are those of the input; so "Every letter gets the same answer under it."

module _ (s out : List ℕ) (n : ℕ) (told : (canonical_of s out).answer ≡ Ok n) where
  pub wrote : Formed s out n
  wrote = formed s out n told

  -- the file that was written
  abbrev pub file : List ℕ
  file = take n (canonical_of s out).out

  abbrev pub header : Header
  header = canonical_header wrote.header (length (remaining wrote.header (content s)))

  -- it reads without refusal ..
  pub file-reads : parsed file ≡ Ok header
  file-reads = rw wrote.front (form-reads s wrote.header wrote.read wrote.few).read

  -- .. and its spread rules are those of the input
  pub same-spread : SameRules (spread_rules header (content file)) (spread_rules wrote.header (content s))
  same-spread =
      same-on (subst (λ (x : List ℕ). SameRules (spread_rules header (content x)) (remaining wrote.header (content s))) (sym wrote.front) (form-spread s wrote.header wrote.read wrote.few))
      (ordered_same (spread_rules wrote.header (content s)))

  -- every answer by the automaton is the same
  module _ {ℓ} {X : Type ℓ} where
    pub same-answers : (refused : Refusal → X) (read : Automaton → X) → by_automaton file refused read ≡ by_automaton s refused read
    same-answers refused read =
        same_answer file s header wrote.header file-reads wrote.read
        (record { states = refl; symbols = refl; initial = refl; accepting = refl; branches = refl }) same-spread refused read

  -- a refused letter has its refusal
  pub same-judged : (tree : List ℕ) → judged file tree ≡ judged s tree
  unfolding judged
  same-judged tree = same-answers Err (λ A. judged_by A tree)

  -- and each letter its sum of growths
  pub same-growth : (tree : List ℕ) → growth_judged file tree ≡ growth_judged s tree
  unfolding growth_judged
  same-growth tree = same-answers (λ r. 0) (λ A. growth_by A tree)

  -- the survey, with what it leaves in the plan buffer; the quick check; and single
  pub same-survey : (buffer : List ℕ) → surveyed file buffer ≡ surveyed s buffer
  unfolding surveyed
  same-survey buffer = same-answers (λ r. answered (Err r) buffer) (λ A. surveyed_by A buffer)

  pub same-quick : checked file ≡ checked s
  unfolding checked
  same-quick = same-answers Err (λ A. Ok (checked_by A))

  pub same-singleness : single_of file ≡ single_of s
  unfolding single_of
  same-singleness = rw (file-reads, wrote.read) (ap (λ b. Ok (single_if b)) (same-single (spread_rules header (content file)) (spread_rules wrote.header (content s)) same-spread))

-- ---- "Two files that are not refused give equal output exactly when those counts, the three sets and the set of spread rules agree"

header-same : (h h' : Header) (n n' : ℕ) → SameCounts h h' → n ≡ n' → canonical_header h n ≡ canonical_header h' n'
header-same h h' n n' c e =
    λ i.
    record { states = c.states i; symbols = c.symbols i; rules = e i; initial = c.initial i; accepting = c.accepting i; branches = c.branches i }

counts_same : (h h' : Header) (n n' : ℕ) → canonical_header h n ≡ canonical_header h' n' → SameCounts h h'
counts_same h h' n n' e =
    record {
      states = ap (λ (x : Header). x.states) e;
      symbols = ap (λ (x : Header). x.symbols) e;
      initial = ap (λ (x : Header). x.initial) e;
      accepting = ap (λ (x : Header). x.accepting) e;
      branches = ap (λ (x : Header). x.branches) e;
    }

module _ (s s' : List ℕ) (h h' : Header) where
  abbrev rules : List Rule
  rules = remaining h (content s)

  abbrev rules' : List Rule
  rules' = remaining h' (content s')

  -- the files hold the same, and so they were made of the same
  equal-files : parsed s ≡ Ok h → parsed s' ≡ Ok h' → length rules ≤ 512 → length rules' ≤ 512
      → canonical_file h rules ≡ canonical_file h' rules' → SameCounts h h' × SameRules (spread_rules h (content s)) (spread_rules h' (content s'))
  equal-files e e' few few' same =
      let here = (form-reads s h e few).read in
      let there = (form-reads s' h' e' few').read in
      let read : Ok (canonical_header h (length rules)) ≡ Ok (canonical_header h' (length rules')) = sym here ∙ ap parsed same ∙ there in
      let headers : canonical_header h (length rules) ≡ canonical_header h' (length rules') = cc in
      let held : rules ≡ rules' =
      sym (form-again s h e few) ∙ ap (λ (x : List ℕ). remaining (canonical_header h (length rules)) (content x)) same
      ∙ ap (λ (x : Header). remaining x (content (canonical_file h' rules'))) headers ∙ form-again s' h' e' few' in (
        counts_same h h' (length rules) (length rules') headers,
        same-on (same_back (ordered_same (spread_rules h (content s))))
            (subst (λ (l : List Rule). SameRules l (spread_rules h' (content s'))) (sym held) (ordered_same (spread_rules h' (content s')))),
      )

  same-files : SameCounts h h' → SameRules (spread_rules h (content s)) (spread_rules h' (content s')) → canonical_file h rules ≡ canonical_file h' rules'
  same-files counts same =
      let held : rules ≡ rules' =
      ordered-is rules (spread_rules h' (content s')) (ordered-rising (spread_rules h (content s))) (same-on (ordered_same (spread_rules h (content s))) same) in
      ap (λ (x : Header). automaton_file x rules) (header-same h h' (length rules) (length rules') counts (ap length held))
      ∙ ap (automaton_file (canonical_header h' (length rules'))) held

  pub equal-output : parsed s ≡ Ok h → parsed s' ≡ Ok h' → (out out' : List ℕ) (n n' : ℕ)
      → (canonical_of s out).answer ≡ Ok n → (canonical_of s' out').answer ≡ Ok n'
      → (take n (canonical_of s out).out ≡ take n' (canonical_of s' out').out)
      ↔ (SameCounts h h' × SameRules (spread_rules h (content s)) (spread_rules h' (content s')))
  equal-output e e' out out' n n' told told' =
      let g = formed s out n told in
      let g' = formed s' out' n' told' in
      let is : g.header ≡ h = cc (g.read, e) in
      let is' : g'.header ≡ h' = cc (g'.read, e') in
      let front = subst (λ (x : Header). take n (canonical_of s out).out ≡ canonical_file x (remaining x (content s))) is g.front in
      let front' = subst (λ (x : Header). take n' (canonical_of s' out').out ≡ canonical_file x (remaining x (content s'))) is' g'.front in
      let few = subst (λ (x : Header). length (remaining x (content s)) ≤ 512) is g.few in
      let few' = subst (λ (x : Header). length (remaining x (content s')) ≤ 512) is' g'.few in (
        λ same. equal-files e e' few few' (sym front ∙ same ∙ front'),
        λ both. front ∙ same-files both.0 both.1 ∙ sym front',
      )

-- ---- "and writing the output again changes nothing."

same-again : (file form out : List ℕ) (n : ℕ) → file ≡ form → n ≡ length form → canonical_of form out ≡ filled_after (Ok tt) form out
    → canonical_of file out ≡ filled (Ok n) (file ++ drop n out)
same-again file form out n e l wrote = rw (e, l) wrote

pub writes_again : (s out : List ℕ) (n : ℕ) → (canonical_of s out).answer ≡ Ok n → (out' : List ℕ) → n ≤ length out'
    → canonical_of (take n (canonical_of s out).out) out' ≡ filled (Ok n) (take n (canonical_of s out).out ++ drop n out')
unfolding written_for
writes_again s out n told out' room =
    let g = formed s out n told in
    let rules = remaining g.header (content s) in
    let header = canonical_header g.header (length rules) in
    let form = canonical_file g.header rules in
    let again = form-again s g.header g.read g.few in
    let fits : 512 * blocks_needed (20 + 5 * length rules) ≤ length out' = omega (arith, g.long, form-long g.header rules) in
    let passes : form_check header rules (length out') ≡ Ok tt =
    form-is header rules (length out') ∙ of-few (length rules) (length out') g.few ∙ room-enough _ (length out') fits in
    let wrote : canonical_of form out' ≡ filled_after (Ok tt) form out' =
    read_is form out' header (form-reads s g.header g.read g.few).read
    ∙ ap (λ (l : List Rule). written_for header l out') again
    ∙ ap (λ (c : Check). filled_after c form out') passes in
    same-again (take n (canonical_of s out).out) form out' n g.front g.long wrote

-- ---- what is promised of a call

pub canonical-right : (s out : List ℕ) → Promise s out (canonical_of s out)
canonical-right s out =
    record {
      kept = kept s out;
      unless_stopped = unless_stopped s out;
      form = λ h e n told.
          let g = formed s out n told in
          let same : g.header ≡ h = cc (g.read, e) in
          subst (λ (x : Header). FormWritten x (content s) out (canonical_of s out).out n) same (form-written s out n g);
      letters = same-judged s out;
      again = writes_again s out;
    }
