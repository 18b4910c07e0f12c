-- The tree of an element text, computed from its tags, and refusals 18, 19, 4 and 12. The quotations are of document 02, W6.
-- Interface: `text_tree`, `text_check`, `tag_check`, `size_check`, `tree_check`.
use Rattle.std.specs.Prelude.{ℕ, ◌<◌, ◌≡◌, true, List, [], ◌∷◌, ltb, length}
use Rattle.blocks.specs.Search.{lowest}
use Rattle.relation.specs.Sets.{member}
use Rattle.model.specs.Trees.{Tree, size}
use Rattle.model.specs.declared.Signature.{Signature}
use Rattle.refusal.specs.Checks.{refuse_if, refuse_at, ◌and_then◌, Check}
use Rattle.refusal.specs.declared.Fault.{Fault}
use Rattle.nodes.specs.Nodes.{height_check}
use Rattle.tags.specs.Tags.{tags_in, bad_tag}
use Rattle.tags.specs.declared.Tag.{Tag}
use Rattle.tags.specs.declared.Tag.TheVariants.{Opens as opens, Closes as closes}
use Rattle.grammar.specs.Grammar.{Elements, empty, element, tree_of}
use Rattle.grammar.specs.Wrong.{wrong_place}

-- ---- the tree

-- an opening tag before the runs that follow it: the first is the run inside, the second the run after
abbrev pub grow : ℕ → List Elements → List Elements
grow n [] = []
grow n (inside ∷ []) = []
grow n (inside ∷ after ∷ rs) = element n inside after ∷ rs

-- the runs that tags write one after another, found from their end; a closing tag ends a run, and so does the end
unfoldable pub runs_of : List Tag → List Elements
runs_of [] = empty ∷ []
runs_of (closes ∷ ts) = empty ∷ runs_of ts
runs_of (opens n ∷ ts) = grow n (runs_of ts)

abbrev pub first_run : List Elements → Elements
first_run [] = empty
first_run (r ∷ rs) = r

-- the elements that a text writes, where it follows the grammar
unfoldable pub elements_of : List ℕ → Elements
elements_of s = first_run (runs_of (tags_in s))

abbrev pub text_tree : List ℕ → Tree
text_tree s = tree_of (elements_of s)

-- ---- 18

-- "text too long (place 32,768), else outside the grammar, place the first byte at which no continuation could be right, or the length if it
-- ends early"
unfoldable pub text_check : List ℕ → Check
text_check s = refuse_if (ltb 32768 (length s)) Fault.Text 2 32768 and_then refuse_at Fault.Text 2 (wrong_place s)

-- ---- 19

-- "symbol 0 is no leaf (place 0), else a tag's symbol is no branch symbol (place the first such `<`)"
unfoldable pub tag_check : Signature → List ℕ → Check
tag_check sg s =
    refuse_if (member sg.branches 0) Fault.Tag 2 0
    and_then refuse_at Fault.Tag 2 (lowest (bad_tag sg.branches s) (length s))

-- ---- 4 and 12

-- "with file 1, 4 at place 2": over 4,096 nodes
unfoldable pub size_check : List ℕ → Check
size_check s = refuse_if (ltb 4096 (size (text_tree s))) Fault.Count 1 2

-- "4 at place 2 and 12": 12 is document 01's, of the text's tree
unfoldable pub tree_check : List ℕ → Check
tree_check s = size_check s and_then height_check (text_tree s)

-- ---- for the code

-- what lines 4 and 7 leave of an automaton's file: it has a symbol, and its branch symbols are symbols
abbrev pub Signed : Signature → Type 0
Signed sg = (0 < sg.symbols) × ((n : ℕ) → member sg.branches n ≡ true → n < sg.symbols)
