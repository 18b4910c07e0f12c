-- An automaton's file in its one form, what is answered to a file and a lent output, and what is left in the output. The quotations are of
-- document 02, W4.
-- Interface: `remaining`, `canonical_header`, `canonical_file`, `many_check`, `form_check`, `form_check_of`, `written_for`, `canonical_of`.
use Rattle.std.specs.Prelude.{ℕ, ◌+◌, ◌*◌, List, ltb, length, Err}
use Rattle.blocks.specs.Blocks.{content}
use Rattle.blocks.specs.FileOf.{blocks_needed}
use Rattle.refusal.specs.Checks.{refuse_if, ◌and_then◌, Check}
use Rattle.refusal.specs.declared.Fault.{Fault}
use Rattle.automaton.specs.File.{parsed, by_reading}
use Rattle.automaton.specs.declared.Header.{Header}
use Rattle.automaton.specs.declared.Rule.{Rule}
use Rattle.automaton_writer.specs.ReadsBack.{automaton_file}
use Rattle.transitions.specs.Spread.{spread_rules}
use Rattle.block_writer.specs.Written.{room_check, Filled, filled, filled_after}
use Rattle.rule_order.specs.Order.{ordered}

-- "place 3 spread, repeats dropped, rules in rising order of their five bytes compared from the first"
abbrev pub remaining : Header → (contents : List ℕ) → List Rule
remaining h contents = ordered (spread_rules h contents)

-- "the same counts of states and symbols, the same three sets", and the number of rules that remain
abbrev pub canonical_header : Header → (rules : ℕ) → Header
canonical_header h n =
    record { states = h.states; symbols = h.symbols; rules = n; initial = h.initial; accepting = h.accepting; branches = h.branches }

-- the file of a header's counts and sets and of these rules
abbrev pub canonical_file : Header → List Rule → List ℕ
canonical_file h rules = automaton_file (canonical_header h (length rules)) rules

-- 17: "more than 512 rules remain, place 0"
abbrev pub many_check : (rules : ℕ) → Check
many_check n = refuse_if (ltb 512 n) Fault.Rules 2 0

-- "17 .. then 13 for a short output, place the length needed"
unfoldable pub form_check : Header → List Rule → (room : ℕ) → Check
form_check h rules room = many_check (length rules) and_then room_check (length (canonical_file h rules)) room

-- the same by the number of rules alone, as the code has it (`OneForm.form-is`)
unfoldable pub form_check_of : (rules room : ℕ) → Check
form_check_of n room = many_check n and_then room_check (512 * blocks_needed (20 + 5 * n)) room

-- "bytes after the output are unchanged"
unfoldable pub written_for : Header → List Rule → (out : List ℕ) → Filled
written_for h rules out = filled_after (form_check h rules (length out)) (canonical_file h rules) out

-- "17, after the walker's own": of an automaton's file, by document 01's table at all times
unfoldable pub canonical_of : (file out : List ℕ) → Filled
canonical_of s out =
    by_reading (parsed s) (content s) (λ r. filled (Err r) out) (λ h contents. written_for h (remaining h contents) out)
