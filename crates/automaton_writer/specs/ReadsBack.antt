-- An automaton that is written can be read: `ReadsBack` is what the file of a header and its rules comes to, where they pass the table.
-- Interface: `Passing`, `automaton_file`, `ReadsBack`.
use Rattle.std.specs.Prelude.{ℕ, ◌<◌, ◌≡◌, false, List, [], ◌∷◌, map, length, get_or, Some, None, Ok}
use Rattle.blocks.specs.Blocks.{content}
use Rattle.blocks.specs.FileOf.{file_of}
use Rattle.automaton.specs.File.{counts_check, sets_check, parsed}
use Rattle.automaton.specs.Payload.{records_of, payload_of}
use Rattle.automaton.specs.Rules.{misplaced, rule_at}
use Rattle.automaton.specs.declared.Header.{Header}
use Rattle.automaton.specs.declared.Rule.{Rule}

-- lines 8 and 9 do not refuse the rule
pub record Fits (h : Header) (r : Rule) : Type 0 where
  pub symbol : r.symbol.0 < h.symbols
  pub state : r.state.0 < h.states
  pub next : r.next.0 < h.states
  pub placed : misplaced h.branches r ≡ false

unfoldable pub FitsEach : Header → List Rule → Type 0
FitsEach h [] = Unit {0}
FitsEach h (r ∷ rs) = Fits h r × FitsEach h rs

-- lines 4 and 7 to 9 refuse neither the header nor a rule
pub record Passing (h : Header) (rs : List Rule) : Type 0 where
  pub number : length rs ≡ h.rules
  pub counts : counts_check h ≡ Ok tt
  pub sets : sets_check h ≡ Ok tt
  pub rules : FitsEach h rs

abbrev pub automaton_file : Header → List Rule → List ℕ
automaton_file h rs = file_of (payload_of h (records_of rs))

-- the file reads with that header, and rule i is the i-th of the list
pub record ReadsBack (h : Header) (rs : List Rule) : Type 0 where
  pub read : parsed (automaton_file h rs) ≡ Ok h
  pub rules : (i : ℕ) → i < length rs → rule_at h (content (automaton_file h rs)) i ≡ get_or (map Some rs) i None
