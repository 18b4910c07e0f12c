-- The file that holds a payload (document 01, Blocks). `file_of` is the definition to cite; proofs/Written has what is read from it.
-- Interface: `blocks_needed`, `check_for`, `word_bytes`, `file_byte`, `file_of`.
use Rattle.std.specs.Prelude.{ℕ, zero, suc, ◌+◌, ◌-◌, ◌*◌, ◌/◌, ◌%◌, ◌^◌, Bool, true, false, List, [], ◌∷◌, length, nat_lt, slice_index}
use Rattle.blocks.specs.Blocks.{word_sum}

-- "A file has the fewest blocks that hold its payload."
abbrev pub blocks_needed : ℕ → ℕ
blocks_needed payload = (payload + 507) / 508

-- the check of block b of the payload's file: past the payload's end `get_or` is 0, as the filler is
unfoldable pub check_for : List ℕ → ℕ → ℕ
check_for p b = (b + 1 + word_sum p (508 * b) 127) % 2 ^ 32

abbrev pub pick : Bool → ℕ → ℕ → ℕ
pick true a b = a
pick false a b = b

-- the four bytes of a 32-bit word, lowest first
unfoldable pub word_bytes : ℕ → List ℕ
word_bytes c = c % 256 ∷ c / 256 % 256 ∷ c / 65536 % 256 ∷ c / 16777216 % 256 ∷ []

-- byte i of the file: "508 bytes of content, then a check of four bytes, lowest first"; the content is "the payload, then filler, all zero"
unfoldable pub file_byte : List ℕ → ℕ → ℕ
file_byte p i = pick (nat_lt (i % 512) 508) (slice_index p (i / 512 * 508 + i % 512)) (slice_index (word_bytes (check_for p (i / 512))) (i % 512 - 508))

-- f i, f (i + 1), .., n of them
unfoldable pub listed : (ℕ → ℕ) → ℕ → ℕ → List ℕ
listed f i zero = []
listed f i (suc n) = f i ∷ listed f (suc i) n

unfoldable pub file_of : List ℕ → List ℕ
file_of p = listed (file_byte p) 0 (512 * blocks_needed (length p))
