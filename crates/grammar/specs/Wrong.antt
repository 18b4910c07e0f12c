-- Where a text goes wrong, computed: whether bytes are a text, or begin one, is told by the pushdown automaton. That this is the grammar's answer,
-- both ways, is proofs/Decided.
-- Interface: `wrong_place`.
use Rattle.std.specs.Prelude.{ℕ, suc, Bool, true, false, not, ◌&&◌, List, [], ◌∷◌, eqb, ltb, length, take, Option}
use Rattle.blocks.specs.Search.{lowest}
use Rattle.tags.specs.Classes.{class_of, space}
use Rattle.grammar.specs.Pushdown.{Configuration, between, tag, one, two, closing, dead, steps, alive}

-- nothing is open
abbrev pub nothing_open : Configuration → Bool
nothing_open (between []) = true
nothing_open (between (n ∷ stack)) = false
nothing_open (tag stack) = false
nothing_open (one d stack) = false
nothing_open (two n stack) = false
nothing_open (closing rest stack) = false
nothing_open dead = false

abbrev pub only_spaces : List ℕ → Bool
only_spaces [] = true
only_spaces (b ∷ s) = eqb (class_of b) space && only_spaces s

-- whether bytes begin a text
unfoldable pub begins : List ℕ → Bool
begins s = alive (steps (between []) s)

-- whether they are one: "a run of one or more elements"
unfoldable pub is_text : List ℕ → Bool
is_text s = nothing_open (steps (between []) s) && not (only_spaces s)

abbrev pub either : Bool → Bool → Bool → Bool
either true a b = a
either false a b = b

-- at a byte, "no continuation could be right"; at the length, the text "ends early"
unfoldable pub wrong_at : List ℕ → (place : ℕ) → Bool
wrong_at s i = not (either (ltb i (length s)) (begins (take (suc i) s)) (is_text s))

-- "the first byte at which no continuation could be right, or the length if it ends early"; nothing for a text
unfoldable pub wrong_place : List ℕ → Option ℕ
wrong_place s = lowest (wrong_at s) (suc (length s))
