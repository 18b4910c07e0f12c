-- What is answered to an automaton's file, an element text and a lent output, and what is left in the output. The quotations are of document 02, W6.
-- Interface: `text_file`, `markup_check`, `markup_for`, `markup_of`.
use Rattle.std.specs.Prelude.{ℕ, List, length, Result, Ok, Err}
use Rattle.model.specs.declared.Signature.{Signature}
use Rattle.refusal.specs.Checks.{◌and_then◌, Check}
use Rattle.block_writer.specs.Written.{room_check, Filled, filled, filled_after}
use Rattle.transitions.specs.Transitions.{by_automaton}
use Rattle.membership.specs.Judged.{signature_of}
use Rattle.tree.specs.Payload.{tree_file}
use Rattle.markup.specs.Checks.{text_tree, text_check, tag_check, tree_check}
use Rattle.refusal.specs.declared.Refusal.{Refusal}

-- "the result is a letter file"
abbrev pub text_file : List ℕ → List ℕ
text_file s = tree_file (text_tree s)

-- 18, 19, "then, with file 1, 4 at place 2 and 12; 13 last, place the length needed"
unfoldable pub markup_check : Signature → List ℕ → (room : ℕ) → Check
markup_check sg s room = text_check s and_then tag_check sg s and_then tree_check s and_then room_check (length (text_file s)) room

-- against a signature; "bytes after it are unchanged"
unfoldable pub markup_for : Signature → (text out : List ℕ) → Filled
markup_for sg s out = filled_after (markup_check sg s (length out)) (text_file s) out

-- "18, after the walker's own": of an automaton's file w
unfoldable pub markup_of : (w text out : List ℕ) → Filled
markup_of w s out = by_automaton w (λ r. filled (Err r) out) (λ A. markup_for (signature_of A) s out)

-- the answer of a check that refuses
abbrev pub refused_by : Check → Result ℕ Refusal
refused_by (Err r) = Err r
refused_by (Ok tt) = Ok 0
