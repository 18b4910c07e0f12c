-- What a lent table of words holds of the rows kept: 51 words a row, the first 64 rows.
-- Interface: `origin_of`, `origin_in`, `origins_in`, `class_in`, `StoredAt`, `Stored`, `KnownIn`, `Written`.
use Rattle.std.specs.Prelude.{◌≡◌, ◌⊎◌, Bool, true, false, List, map, ℕ, ◌+◌, ◌*◌, ◌%◌, ◌<◌, ◌≤◌, length, get_or, take, drop}
use Rattle.model.specs.Lists.{Nth, count_from}
use Rattle.model.specs.Saturation.{WitnessRow, witness_row, Candidate}
use Rattle.algorithms.specs.Automaton.{Automaton}
use Rattle.algorithms.specs.Saturate.{Parts, parts, same_parts, algebra_of}
use Rattle.representatives.specs.declared.Origin.{Origin}

-- how a tree is built, as the definition has it
abbrev pub origin_of : Origin → WitnessRow
origin_of o = witness_row o.symbol.0 o.left.0 o.right.0

-- row i: how its tree is built (words 0 to 2, a byte each), and its class (24 words for the left relation, 24 for the right)
abbrev pub byte_in : List ℕ → ℕ → ℕ → ℕ
byte_in rows i k = get_or rows (i * 51 + k) 0 % 256

abbrev pub origin_in : List ℕ → ℕ → WitnessRow
origin_in rows i = witness_row (byte_in rows i 0) (byte_in rows i 1) (byte_in rows i 2)

-- how the trees of the first n rows are built
abbrev pub origins_in : List ℕ → ℕ → List WitnessRow
origins_in rows n = map (origin_in rows) (count_from 0 n)

abbrev pub class_in : List ℕ → ℕ → Parts
class_in rows i = parts (take 24 (drop (i * 51 + 3) rows)) (take 24 (drop (i * 51 + 27) rows))

-- row i is this candidate
pub record StoredAt (A : Automaton) (rows : List ℕ) (i : ℕ) (c : Candidate (algebra_of A)) : Type 0 where
  pub origin : origin_in rows i ≡ c.row
  pub class : class_in rows i ≡ c.class

-- n counts the rows, and is 65 for more than 64
abbrev pub Count : ℕ → ℕ → Type 0
Count n rows = ((n ≡ rows) × (rows ≤ 64)) ⊎ ((n ≡ 65) × (64 < rows))

-- the table has the first 64 rows kept, and n is their count
pub record Stored (A : Automaton) (rows : List ℕ) (n : ℕ) (kept : List (Candidate (algebra_of A))) : Type 0 where
  pub count : Count n (length kept)
  pub each : (i : ℕ) (c : Candidate (algebra_of A)) → i < 64 → Nth kept i c → StoredAt A rows i c

-- whether x is the class of one of the first n rows
abbrev pub KnownIn : Bool → (rows : List ℕ) (n : ℕ) → Parts → Type 0
KnownIn true rows n x = (i : ℕ) × (i < n) × (same_parts x (class_in rows i) ≡ true)
KnownIn false rows n x = (i : ℕ) → i < n → same_parts x (class_in rows i) ≡ false

-- rows' is rows with row i written
pub record Written (i : ℕ) (o : WitnessRow) (x : Parts) (rows rows' : List ℕ) : Type 0 where
  pub origin : origin_in rows' i ≡ o
  pub class : class_in rows' i ≡ x
  pub others_origin : (j : ℕ) → j < 64 → (j ≡ i → ⊥) → origin_in rows' j ≡ origin_in rows j
  pub others_class : (j : ℕ) → j < 64 → (j ≡ i → ⊥) → class_in rows' j ≡ class_in rows j
