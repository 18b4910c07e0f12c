-- The tags of a text, found by their `<`, and the nodes that they stand for. The quotation is of document 02, W6.
-- Interface: `tags_in`, `nodes_in`, `bad_tag`.
use Rattle.std.specs.Prelude.{ℕ, ◌+◌, ◌-◌, ◌*◌, Bool, true, false, not, ◌&&◌, List, [], ◌∷◌, eqb, get_or}
use Rattle.relation.specs.Sets.{member}
use Rattle.tags.specs.Classes.{class_of, pick, digit}
use Rattle.tags.specs.declared.Tag.{Tag}
use Rattle.tags.specs.declared.Tag.TheVariants.{Opens as opens, Closes as closes}

abbrev pub pick_tag : Bool → Tag → Tag → Tag
pick_tag true a b = a
pick_tag false a b = b

-- what a digit stands for; any other byte for 0
unfoldable pub digit_of : ℕ → ℕ
digit_of b = pick (eqb (class_of b) digit) (b - 48) 0

-- the tag whose `<` stands before two bytes: of any text, though it is asked only of texts that follow the grammar
unfoldable pub tag_before : (first second : ℕ) → Tag
tag_before first second =
    pick_tag (eqb first 47) closes
    (pick_tag (eqb second 62) (opens (digit_of first)) (opens (10 * digit_of first + digit_of second)))

abbrev pub and_tag : Bool → Tag → List Tag → List Tag
and_tag true t ts = t ∷ ts
and_tag false t ts = ts

-- a tag for each `<`
unfoldable pub tags_in : List ℕ → List Tag
tags_in [] = []
tags_in (b ∷ s) = and_tag (eqb b 60) (tag_before (get_or s 0 0) (get_or s 1 0)) (tags_in s)

-- an opening tag stands for its branch, a closing tag for the leaf that ends the run inside
abbrev pub node_of : Tag → ℕ
node_of (opens n) = n
node_of closes = 0

-- and the end for the leaf that ends the outer run
unfoldable pub nodes_of : List Tag → List ℕ
nodes_of [] = 0 ∷ []
nodes_of (t ∷ ts) = node_of t ∷ nodes_of ts

-- the tag whose `<` stands at a place
abbrev pub tag_at : List ℕ → ℕ → Tag
tag_at s at = tag_before (get_or s (at + 1) 0) (get_or s (at + 2) 0)

-- the nodes of a text, in preorder
unfoldable pub nodes_in : List ℕ → List ℕ
nodes_in s = nodes_of (tags_in s)

abbrev pub no_branch : ℕ → Tag → Bool
no_branch branches (opens n) = not (member branches n)
no_branch branches closes = false

-- "a tag's symbol is no branch symbol": at its `<`
unfoldable pub bad_tag : ℕ → List ℕ → ℕ → Bool
bad_tag branches s at = eqb (get_or s at 0) 60 && no_branch branches (tag_at s at)
