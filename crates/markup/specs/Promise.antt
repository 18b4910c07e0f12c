-- What W6 says of an answer and of the lent bytes afterwards, in terms of the grammar. Definitions only; the quotations are of document 02, W6.
-- Interface: `Promise`.
use Rattle.std.specs.Prelude.{◌≡◌, List, ◌++◌, ℕ, ◌≤◌, ◌<◌, length, drop, Ok, Err}
use Rattle.model.specs.Trees.{size, height}
use Rattle.model.specs.declared.Signature.{Signature}
use Rattle.blocks.specs.Blocks.{content}
use Rattle.refusal.specs.Numbers.{number_of}
use Rattle.refusal.specs.declared.Fault.{Fault}
use Rattle.refusal.specs.declared.Refusal.{Refusal}
use Rattle.automaton.specs.File.{parsed}
use Rattle.automaton.specs.declared.Header.{Header}
use Rattle.transitions.specs.Transitions.{automaton_of}
use Rattle.tree.specs.Payload.{tree_file}
use Rattle.tree_writer.specs.ReadsBack.{ReadsBack}
use Rattle.block_writer.specs.Written.{Filled}
use Rattle.membership.specs.Judged.{signature_of}
use Rattle.grammar.specs.Grammar.{Elements, Text, WrongAt, tree_of}
use Rattle.markup.specs.Checks.{tag_check}

-- "none of the checks below applies" to the text s of these elements, and the output has room
pub record Unchecked (sg : Signature) (s : List ℕ) (r : Elements) (room : ℕ) : Type 0 where
  pub short : length s ≤ 32768
  pub tags : tag_check sg s ≡ Ok tt
  pub few : size (tree_of r) ≤ 4096
  pub low : height (tree_of r) ≤ 64
  pub enough : length (tree_file (tree_of r)) ≤ room

-- the answer is the length n: the text "follows this grammar and none of the checks .. applies"; "the result is a letter file", of the tree of
-- its elements, which reads back; "bytes after it are unchanged"
pub record TextWritten (sg : Signature) (s before after : List ℕ) (n : ℕ) : Type 0 where
  pub elements : Elements
  pub text : Text s elements
  pub unchecked : Unchecked sg s elements (length before)
  pub long : n ≡ length (tree_file (tree_of elements))
  pub bytes : after ≡ tree_file (tree_of elements) ++ drop n before
  pub reads_back : ReadsBack sg (tree_of elements)

-- of an automaton's file w, the text s, the output before, and the answer with the output afterwards
pub record Promise (w s before : List ℕ) (o : Filled) : Type 0 where
  -- "a refused call leaves every lent byte as it was" (W1)
  pub kept : (r : Refusal) → o.answer ≡ Err r → o.out ≡ before
  -- "a text is accepted exactly if it follows this grammar and none of the checks below applies": one way ..
  pub file : (h : Header) → parsed w ≡ Ok h → (n : ℕ) → o.answer ≡ Ok n
      → TextWritten (signature_of (automaton_of h (content w))) s before o.out n
  -- .. and the other
  pub accepted : (h : Header) → parsed w ≡ Ok h → (r : Elements) → Text s r → Unchecked (signature_of (automaton_of h (content w))) s r (length before)
      → o.answer ≡ Ok (length (tree_file (tree_of r)))
  -- 18: "text too long (place 32,768)"
  pub long : (h : Header) → parsed w ≡ Ok h → 32768 < length s
      → o.answer ≡ Err (record { number = number_of Fault.Text; file = 2; place = 32768 })
  -- .. "else outside the grammar", at the place where the text goes wrong
  pub wrong : (h : Header) → parsed w ≡ Ok h → length s ≤ 32768 → (place : ℕ) → WrongAt s place
      → o.answer ≡ Err (record { number = number_of Fault.Text; file = 2; place = place })
