-- What W4 says of an answer and of the lent bytes afterwards. Definitions only; the quotations are of document 02, W4.
-- Interface: `Promise`.
use Rattle.std.specs.Prelude.{ℕ, ◌≤◌, ◌≡◌, List, ◌++◌, length, take, drop, Ok, Err}
use Rattle.model.specs.Lists.{◌∈◌}
use Rattle.model.specs.declared.Place.{Place}
use Rattle.blocks.specs.Blocks.{content}
use Rattle.refusal.specs.declared.Refusal.{Refusal}
use Rattle.automaton.specs.File.{parsed}
use Rattle.automaton.specs.declared.Header.{Header}
use Rattle.automaton.specs.declared.Rule.{Rule}
use Rattle.automaton.specs.declared.Scope.{Scope}
use Rattle.automaton_writer.specs.ReadsBack.{automaton_file, ReadsBack}
use Rattle.transitions.specs.Spread.{spread_rules, SameRules, SameCounts}
use Rattle.membership.specs.Judged.{judged}
use Rattle.block_writer.specs.Written.{room_check, Filled, filled}
use Rattle.rule_order.specs.Order.{Rising}
use Rattle.canonical.specs.Canonical.{remaining, canonical_file, many_check, canonical_of}

-- a file of n bytes was written, for the header h and the contents that were read
pub record FormWritten (h : Header) (contents before after : List ℕ) (n : ℕ) : Type 0 where
  pub header : Header
  pub rules : List Rule
  pub long : n ≡ length (automaton_file header rules)
  -- "bytes after the output are unchanged"
  pub bytes : after ≡ automaton_file header rules ++ drop n before
  -- it reads without refusal, with this header and these rules
  pub reads_back : ReadsBack header rules
  -- "the same counts of states and symbols, the same three sets"
  pub counts : SameCounts h header
  pub number : header.rules ≡ length rules
  -- "place 3 spread"
  pub spread : (r : Rule) → r ∈ rules → (τ : Place) × (r.scope ≡ Scope.Only τ)
  pub same : SameRules rules (spread_rules h contents)
  -- "repeats dropped, rules in rising order of their five bytes"
  pub rising : Rising rules

-- of an automaton's file, the output before, and the answer with the output afterwards
pub record Promise (s before : List ℕ) (o : Filled) : Type 0 where
  -- "a refused call leaves every lent byte as it was"
  pub kept : (r : Refusal) → o.answer ≡ Err r → o.out ≡ before
  -- a file that reads is refused by 17 and 13 alone
  pub unless_stopped : (h : Header) → parsed s ≡ Ok h
      → let rules = remaining h (content s) in
      many_check (length rules) ≡ Ok tt → room_check (length (canonical_file h rules)) (length before) ≡ Ok tt
      → o.answer ≡ Ok (length (canonical_file h rules))
  pub form : (h : Header) → parsed s ≡ Ok h → (n : ℕ) → o.answer ≡ Ok n → FormWritten h (content s) before o.out n
  -- "every letter gets the same answer under it", a refused one too
  pub letters : (n : ℕ) → o.answer ≡ Ok n → (tree : List ℕ) → judged (take n o.out) tree ≡ judged s tree
  -- "writing the output again changes nothing": onto an output that is long enough
  pub again : (n : ℕ) → o.answer ≡ Ok n → (out : List ℕ) → n ≤ length out
      → canonical_of (take n o.out) out ≡ filled (Ok n) (take n o.out ++ drop n out)
