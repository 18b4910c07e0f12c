-- What is answered to an automaton's file, a plan and a lent output, and what is left in the output. The quotations are of document 02, W1.
-- Interface: `plan_file`, `space_check`, `witness_for`, `witness_of`.
use Rattle.std.specs.Prelude.{List, ℕ, length, Err}
use Rattle.model.specs.declared.Signature.{Signature}
use Rattle.refusal.specs.Checks.{◌and_then◌, Check}
use Rattle.block_writer.specs.Written.{room_check, Filled, filled, filled_after}
use Rattle.transitions.specs.Transitions.{by_automaton}
use Rattle.membership.specs.Judged.{signature_of}
use Rattle.tree.specs.Payload.{tree_file}
use Rattle.witness.specs.Plan.{plan_tree, plan_check, large_check}

-- "write the last row's tree as a letter file"
abbrev pub plan_file : (plan : List ℕ) → List ℕ
plan_file p = tree_file (plan_tree p)

-- "16 next .. 13 last, if the output is shorter than the file, place the file's length"
unfoldable pub space_check : (plan : List ℕ) → (room : ℕ) → Check
space_check p room = large_check p and_then room_check (length (plan_file p)) room

-- against a signature
unfoldable pub witness_for : Signature → (plan out : List ℕ) → Filled
witness_for sg p out = filled_after (plan_check sg p and_then space_check p (length out)) (plan_file p) out

-- "15, after the walker's own": of an automaton's file w
unfoldable pub witness_of : (w plan out : List ℕ) → Filled
witness_of w p out = by_automaton w (λ r. filled (Err r) out) (λ A. witness_for (signature_of A) p out)
