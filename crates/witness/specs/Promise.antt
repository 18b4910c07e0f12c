-- What W1 says of an answer and of the lent bytes afterwards, in terms of trees and runs. Definitions only; the quotations are of document 02, W1.
-- Interface: `Promise`.
use Rattle.std.specs.Prelude.{◌≡◌, List, ◌++◌, ℕ, ◌*◌, length, take, drop, Ok, Err}
use Rattle.model.specs.Trees.{Tree}
use Rattle.model.specs.Saturation.{Builds}
use Rattle.model.specs.declared.Signature.{Signature}
use Rattle.algorithms.specs.Automaton.{Automaton, Accepted}
use Rattle.blocks.specs.Blocks.{content}
use Rattle.refusal.specs.declared.Refusal.{Refusal}
use Rattle.automaton.specs.File.{parsed}
use Rattle.automaton.specs.declared.Header.{Header}
use Rattle.transitions.specs.Transitions.{automaton_of}
use Rattle.tree.specs.Payload.{tree_file}
use Rattle.tree_writer.specs.ReadsBack.{ReadsBack}
use Rattle.block_writer.specs.Written.{room_check, Filled}
use Rattle.membership.specs.Judged.{signature_of, judged}
use Rattle.membership.specs.declared.Answer.{Answer}
use Rattle.emptiness.specs.Surveyed.{surveyed}
use Rattle.emptiness.specs.declared.Survey.{Survey}
use Rattle.witness.specs.Plan.{plan_rows, plan_check, large_check}
use Rattle.witness.specs.Written.{plan_file}

-- the plan p builds a tree, and no other; "reading the file back gives the plan's tree"
pub record PlanTree (sg : Signature) (p : List ℕ) (t : Tree) : Type 0 where
  pub builds : Builds (plan_rows p) t
  pub one : (u : Tree) → Builds (plan_rows p) u → u ≡ t
  pub reads_back : ReadsBack sg t

-- the answer is the length n: "write the last row's tree as a letter file"; "bytes after the file are unchanged"
pub record TreeWritten (sg : Signature) (p before after : List ℕ) (n : ℕ) : Type 0 where
  pub tree : Tree
  pub plan : PlanTree sg p tree
  pub long : n ≡ length (tree_file tree)
  pub bytes : after ≡ tree_file tree ++ drop n before

-- "a plan from Found, if neither 16 nor 13 stops it, gives a letter that this walker accepts": by what judging answers, and by runs
pub record FoundWritten (w : List ℕ) (A : Automaton) (p before : List ℕ) (o : Filled) : Type 0 where
  pub not_15 : plan_check (signature_of A) p ≡ Ok tt
  pub unless_stopped : large_check p ≡ Ok tt → room_check (length (plan_file p)) (length before) ≡ Ok tt → o.answer ≡ Ok (length (plan_file p))
  pub judged_accepted : (n : ℕ) → o.answer ≡ Ok n → judged w (take n o.out) ≡ Ok Answer.Accepted
  pub by_runs : (t : Tree) → Builds (plan_rows p) t → Accepted A t

-- of an automaton's file w, the plan p, the output before, and the answer with the output afterwards
pub record Promise (w p before : List ℕ) (o : Filled) : Type 0 where
  -- "a refused call leaves every lent byte as it was"
  pub kept : (r : Refusal) → o.answer ≡ Err r → o.out ≡ before
  -- every plan that 15 and 16 pass has its tree, whether or not 13 stops it
  pub tree : (h : Header) → parsed w ≡ Ok h
      → let sg = signature_of (automaton_of h (content w)) in plan_check sg p ≡ Ok tt → large_check p ≡ Ok tt → (t : Tree) × PlanTree sg p t
  pub file : (h : Header) → parsed w ≡ Ok h → (n : ℕ) → o.answer ≡ Ok n
      → TreeWritten (signature_of (automaton_of h (content w))) p before o.out n
  -- "a plan from Found": the 3 × rows bytes that a survey of this file left in any buffer
  pub found : (h : Header) → parsed w ≡ Ok h → (buffer : List ℕ) (height rows : ℕ)
      → (surveyed w buffer).answer ≡ Ok (Survey.Found height rows) → p ≡ take (3 * rows) (surveyed w buffer).buffer
      → FoundWritten w (automaton_of h (content w)) p before o
