-- The part of two logs in which they agree. The quotations are of document 02, W8; bytes are compared, and whether the entries are lawful plays no
-- part (DECISIONS, W8).
-- Interface: `counted`, `common_bytes`, `common_entries`, `common_part`.
use Rattle.std.specs.Prelude.{ℕ, suc, ◌*◌, ◌/◌, Bool, true, false, List, [], ◌∷◌, eqb, take}

-- one more than what follows, or none
abbrev pub counted : Bool → ℕ → ℕ
counted true later = suc later
counted false later = 0

-- the bytes from the start on that are the same in both
unfoldable pub common_bytes : (a b : List ℕ) → ℕ
common_bytes [] b = 0
common_bytes (x ∷ a) [] = 0
common_bytes (x ∷ a) (y ∷ b) = counted (eqb x y) (common_bytes a b)

-- "the longest opening stretch of whole entries in which the two agree": an entry has three bytes
abbrev pub common_entries : (a b : List ℕ) → ℕ
common_entries a b = common_bytes a b / 3

-- "as that part of the first log itself"
abbrev pub common_part : (a b : List ℕ) → List ℕ
common_part a b = take (3 * common_entries a b) a
