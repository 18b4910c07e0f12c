-- The grammar of element texts, and the tree of a text. The quotations are of document 02, W6.
-- Interface: `Elements`, `Writes`, `Text`, `Begins`, `WrongAt`, `tree_of`, `elements_in`, `without_spaces`.
use Rattle.std.specs.Prelude.{ℕ, zero, suc, ◌+◌, ◌/◌, ◌%◌, ◌<◌, ◌≤◌, ◌≡◌, Bool, true, false, List, [], ◌∷◌, ◌++◌, ltb, length, take}
use Rattle.model.specs.Trees.{Tree, leaf, node}
use Rattle.tags.specs.Classes.{class_of, space}

-- a run of elements: it is empty; or an element, of a number and a run inside it, and the run after it
pub data Elements : Type 0 where
  empty : Elements
  element : (number : ℕ) (inside after : Elements) → Elements

-- "Spaces, tabs and line ends": bytes of the class space
pub data Spaces : List ℕ → Type 0 where
  none : Spaces []
  more : (b : ℕ) {s : List ℕ} → class_of b ≡ space → Spaces s → Spaces (b ∷ s)

abbrev pub digits_if : Bool → ℕ → List ℕ
digits_if true n = (48 + n) ∷ []
digits_if false n = (48 + n / 10) ∷ (48 + n % 10) ∷ []

-- a number below 100 "in one or two digits with no needless leading zero"; 48 is `0`
unfoldable pub written : ℕ → List ℕ
written n = digits_if (ltb n 10) n

-- "`<`, a symbol number ..., `>`", then .. "`</`, the same number, `>`"
unfoldable pub open_tag : ℕ → List ℕ
open_tag n = 60 ∷ (written n ++ (62 ∷ []))

unfoldable pub close_tag : ℕ → List ℕ
close_tag n = 60 ∷ 47 ∷ (written n ++ (62 ∷ []))

-- the texts of a run, with spaces "before, between and after tags, not inside one"
pub data Writes : List ℕ → Elements → Type 0 where
  blank : {s : List ℕ} → Spaces s → Writes s empty
  tagged :
      {s x y : List ℕ} (n : ℕ) {inside after : Elements} → Spaces s → n < 100 → Writes x inside → Writes y after →
      Writes (s ++ (open_tag n ++ (x ++ (close_tag n ++ y)))) (element n inside after)

abbrev pub OneOrMore : Elements → Type 0
OneOrMore empty = ⊥
OneOrMore (element n inside after) = Unit

-- "A text is a run of one or more elements."
pub record Text (s : List ℕ) (r : Elements) : Type 0 where
  pub writes : Writes s r
  pub some : OneOrMore r

-- a continuation could be right
pub record Begins (p : List ℕ) : Type 0 where
  pub rest : List ℕ
  pub run : Elements
  pub text : Text (p ++ rest) run

-- "outside the grammar, place the first byte at which no continuation could be right, or the length if it ends early"
pub record WrongAt (s : List ℕ) (place : ℕ) : Type 0 where
  pub within : place ≤ length s
  pub before : Begins (take place s)
  pub there : place < length s → Begins (take (place + 1) s) → ⊥
  pub no_text : (r : Elements) → Text s r → ⊥

-- "An element becomes a branch node: its left part is the run inside it, its right part the run after it. An empty run is leaf symbol 0."
unfoldable pub tree_of : Elements → Tree
tree_of empty = leaf 0
tree_of (element n inside after) = node n (tree_of inside) (tree_of after)

-- how many elements a run has, those inside its elements counted
unfoldable pub elements_in : Elements → ℕ
elements_in empty = 0
elements_in (element n inside after) = suc (elements_in inside + elements_in after)

abbrev pub unless_space : ℕ → ℕ → List ℕ → List ℕ
unless_space zero b s = s
unless_space (suc c) b s = b ∷ s

-- a text without its bytes of class space, which is 0: texts differ only in spaces if this is the same of both
unfoldable pub without_spaces : List ℕ → List ℕ
without_spaces [] = []
without_spaces (b ∷ s) = unless_space (class_of b) b (without_spaces s)
