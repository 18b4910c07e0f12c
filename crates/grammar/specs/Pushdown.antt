-- A text read byte by byte by a pushdown automaton: its stack has the numbers of the open elements, innermost first. The code follows it; that it
-- reads exactly the texts of the grammar is proofs/PushdownLaws.
-- Interface: `Configuration`, `step`, `steps`, `Goes`, `alive`.
use Rattle.std.specs.Prelude.{ℕ, zero, suc, ◌+◌, ◌-◌, ◌*◌, ◌<◌, Bool, true, false, List, [], ◌∷◌, ◌++◌, T, eqb, length, get_or}
use Rattle.tags.specs.Classes.{class_of}
use Rattle.grammar.specs.Grammar.{written}

-- what the automaton is in the midst of, and its stack
pub data Configuration : Type 0 where
  -- outside tags
  between : (stack : List ℕ) → Configuration
  -- after `<`
  tag : (stack : List ℕ) → Configuration
  -- after `<` and one digit
  one : (d : ℕ) (stack : List ℕ) → Configuration
  -- after `<` and two digits
  two : (n : ℕ) (stack : List ℕ) → Configuration
  -- in a closing tag: the bytes that are to come, and what is open after it
  closing : (rest stack : List ℕ) → Configuration
  -- no continuation is right
  dead : Configuration

abbrev pub next_if : Bool → Configuration → Configuration → Configuration
next_if true a b = a
next_if false a b = b

-- by class: space, digit, less, slash, greater, other
abbrev pub by_class : ℕ → Configuration → Configuration → Configuration → Configuration → Configuration → Configuration
by_class zero s d l f g = s
by_class (suc zero) s d l f g = d
by_class (suc (suc zero)) s d l f g = l
by_class (suc (suc (suc zero))) s d l f g = f
by_class (suc (suc (suc (suc zero)))) s d l f g = g
by_class (suc (suc (suc (suc (suc n))))) s d l f g = dead

abbrev pub closing_of : List ℕ → Configuration
closing_of [] = dead
closing_of (n ∷ stack) = closing (written n ++ (62 ∷ [])) stack

abbrev pub closing_on : List ℕ → List ℕ → Configuration
closing_on [] stack = between stack
closing_on (c ∷ rest) stack = closing (c ∷ rest) stack

unfoldable pub step : Configuration → ℕ → Configuration
step (between stack) b = by_class (class_of b) (between stack) dead (tag stack) dead dead
step (tag stack) b = by_class (class_of b) dead (one (b - 48) stack) dead (closing_of stack) dead
step (one d stack) b = by_class (class_of b) dead (next_if (eqb d 0) dead (two (10 * d + (b - 48)) stack)) dead dead (between (d ∷ stack))
step (two n stack) b = by_class (class_of b) dead dead dead dead (between (n ∷ stack))
step (closing [] stack) b = dead
step (closing (c ∷ rest) stack) b = next_if (eqb b c) (closing_on rest stack) dead
step dead b = dead

unfoldable pub steps : Configuration → List ℕ → Configuration
steps q [] = q
steps q (b ∷ s) = steps (step q b) s

-- from q at a place of a list to q' at a place further on
pub data Goes (s : List ℕ) : ℕ → Configuration → ℕ → Configuration → Type 0 where
  here : {at : ℕ} {q : Configuration} → Goes s at q at q
  on : {at to : ℕ} {q r : Configuration} → at < length s → Goes s (at + 1) (step q (get_or s at 0)) to r → Goes s at q to r

-- something could follow
abbrev pub alive : Configuration → Bool
alive (between stack) = true
alive (tag stack) = true
alive (one d stack) = true
alive (two n stack) = true
alive (closing rest stack) = true
alive dead = false

abbrev pub Alive : Configuration → Type 0
Alive q = T (alive q)
