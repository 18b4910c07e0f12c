-- The board of document 01: one table of the rows (a) to (k), and what it is for a row to be right, in terms of runs, and of trees of every
-- size.
-- Interface: `rows`, `Right`.
use Rattle.std.specs.Prelude.{◌≡◌, ◌↔◌, Bool, true, false, List, [], ◌∷◌, ◌++◌, ℕ, ◌≤◌, T, length, drop, Ok}
use Rattle.model.specs.Trees.{Tree, leaf, node}
use Rattle.algorithms.specs.Automaton.{Accepted}
use Rattle.blocks.specs.Blocks.{word_at, block_check, content}
use Rattle.automaton.specs.File.{parsed}
use Rattle.automaton.specs.declared.Header.{Header}
use Rattle.transitions.specs.Transitions.{automaton_of}
use Rattle.tree.specs.File.{nodes_of, read_tree}
use Rattle.nodes.specs.Preorder.{Writes}
use Rattle.membership.specs.Judged.{signature_of, accepted_if, judged}
use Rattle.emptiness.specs.Surveyed.{Answered, answered, surveyed}
use Rattle.emptiness.specs.Checked.{checked}
use Rattle.emptiness.specs.Demand3.{Surveys, Approximates}
use Rattle.emptiness.specs.declared.Survey.{Survey}
use Rattle.emptiness.specs.declared.Quick.{Quick}
use Rattle.board.specs.Files.{file_a, file_a+, file_i, file_j, letter}

pub data Row : Type 0 where
  -- an automaton's file, the symbols of a letter, its tree, and whether it is accepted
  judges : (automaton symbols : List ℕ) → Tree → (accepted : Bool) → Row
  -- an automaton's file, what its survey answers, the bytes of the plan (none where nothing was found), and what its quick check answers
  surveys : (automaton : List ℕ) → Survey → (plan : List ℕ) → Quick → Row
  -- the symbols of a letter, and the check of its one block
  seals : (symbols : List ℕ) → (check : ℕ) → Row

unfoldable pub rows : List Row
rows =
    judges file_a (2 ∷ 0 ∷ 1 ∷ []) (node 2 (leaf 0) (leaf 1)) true  -- (a)
    ∷ judges file_a (2 ∷ 1 ∷ 0 ∷ []) (node 2 (leaf 1) (leaf 0)) false  -- (b)
    ∷ judges file_a (1 ∷ []) (leaf 1) false  -- (c)
    ∷ judges file_a+ (1 ∷ []) (leaf 1) true  -- (d)
    ∷ judges file_a (2 ∷ 0 ∷ 2 ∷ 0 ∷ 1 ∷ []) (node 2 (leaf 0) (node 2 (leaf 0) (leaf 1))) true  -- (e)
    ∷ judges file_a (2 ∷ 2 ∷ 0 ∷ 1 ∷ 0 ∷ []) (node 2 (node 2 (leaf 0) (leaf 1)) (leaf 0)) false  -- (f)
    ∷ surveys file_a (Survey.Found 1 3) (0 ∷ 255 ∷ 255 ∷ 1 ∷ 255 ∷ 255 ∷ 2 ∷ 0 ∷ 1 ∷ []) Quick.Unsure  -- (g)
    ∷ surveys file_a+ (Survey.Found 0 1) (1 ∷ 255 ∷ 255 ∷ []) Quick.Unsure  -- (h)
    ∷ surveys file_i (Survey.Empty 1) [] Quick.Clear  -- (i)
    ∷ surveys file_j (Survey.Empty 0) [] Quick.Unsure  -- (j)
    ∷ seals (2 ∷ 0 ∷ 1 ∷ []) 262231  -- (k)
    ∷ []

-- the automaton's file w reads, the letter s is read against it without refusal and writes the tree; the engine answers as the row says, and
-- a run from the root in an initial state to the root in a final one is there or not, as the row says
pub record JudgesRight (w s : List ℕ) (t : Tree) (accepted : Bool) : Type 0 where
  pub header : Header
  pub read : parsed w ≡ Ok header
  pub nodes : ℕ
  pub letter_read : read_tree (signature_of (automaton_of header (content w))) s ≡ Ok nodes
  pub writes : Writes (signature_of (automaton_of header (content w))) (nodes_of nodes (content s)) t
  pub answer : judged w s ≡ Ok (accepted_if accepted)
  pub run : Accepted (automaton_of header (content w)) t ↔ T accepted

-- the survey's answer, and a buffer that begins with the plan and is otherwise as it was
abbrev pub planned : Survey → (plan buffer : List ℕ) → Answered
planned answer plan buffer = answered (Ok answer) (plan ++ drop (length plan) buffer)

-- the automaton's file w reads; survey and quick check answer what the row says, for every buffer of 195 bytes or more; and so demand 3 holds
-- of these answers, over trees of every size
pub record SurveysRight (w : List ℕ) (answer : Survey) (plan : List ℕ) (quick : Quick) : Type 0 where
  pub header : Header
  pub read : parsed w ≡ Ok header
  pub survey_is : (buffer : List ℕ) → 195 ≤ length buffer → surveyed w buffer ≡ planned answer plan buffer
  pub quick_is : checked w ≡ Ok quick
  pub survey_right : (buffer : List ℕ) → 195 ≤ length buffer → Surveys (automaton_of header (content w)) buffer (planned answer plan buffer)
  pub quick_right : Approximates (automaton_of header (content w)) (Ok quick)

-- the check of block 0 is this number, and it stands in the four bytes after the content
pub record SealsRight (s : List ℕ) (check : ℕ) : Type 0 where
  pub check_is : block_check s 0 ≡ check
  pub stands : word_at s 508 ≡ check

abbrev pub Right : Row → Type 0
Right (judges automaton symbols tree accepted) = JudgesRight automaton (letter symbols) tree accepted
Right (surveys automaton answer plan quick) = SurveysRight automaton answer plan quick
Right (seals symbols check) = SealsRight (letter symbols) check
