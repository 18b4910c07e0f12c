-- The classes of bytes. The quotation is of document 02, W6.
-- Interface: `class_of`, `IsTable`.
use Rattle.std.specs.Prelude.{ℕ, ◌<◌, ◌≡◌, List, get_or, Bool, true, false, ◌&&◌, ◌||◌, eqb, leb}

-- the six classes, as the table has them
abbrev pub space : ℕ
space = 0

abbrev pub digit : ℕ
digit = 1

abbrev pub less : ℕ
less = 2

abbrev pub slash : ℕ
slash = 3

abbrev pub greater : ℕ
greater = 4

abbrev pub other : ℕ
other = 5

abbrev pub pick : Bool → ℕ → ℕ → ℕ
pick true a b = a
pick false a b = b

-- "Each of the 256 byte values has a class from a fixed table: space (9, 10, 13, 32), digit, `<`, `/`, `>`, other."
unfoldable pub class_of : ℕ → ℕ
class_of b =
    pick (eqb b 9 || eqb b 10 || eqb b 13 || eqb b 32) space
    (pick (leb 48 b && leb b 57) digit
    (pick (eqb b 60) less
    (pick (eqb b 47) slash
    (pick (eqb b 62) greater other))))

-- a table that has each byte's class
unfoldable pub IsTable : List ℕ → Type 0
IsTable t = (b : ℕ) → b < 256 → get_or t b 0 ≡ class_of b
