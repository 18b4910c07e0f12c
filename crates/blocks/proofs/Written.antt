-- What is read from a payload's file: as many blocks as are needed, no check wrong, and the payload with zeros after it.
-- Assumes nothing.
use Rattle.std.proofs.Common.{◌≡◌, ℕ, zero, suc, ◌+◌, ◌-◌, ◌*◌, ◌/◌, ◌%◌, ◌<◌, ◌≤◌, not, List, [], ◌∷◌, ◌++◌, length, get_or, replicate, sym, refl, ap, ◌∙◌, add-zero, arith, length-append, ext_get_or, le-ltb, lt-ltb, eq-eqb}
use lib.ListN.{length-replicate}
use Rattle.blocks.specs.Blocks.{word_at, word_sum, block_check, check_wrong, content}
use Rattle.blocks.specs.Search.{lowest}
use Rattle.std.specs.Prelude.{None}
use Rattle.blocks.specs.FileOf.{blocks_needed, check_for, word_bytes, file_byte, listed, file_of}
use Rattle.blocks.proofs.Laws.{content-length, content-at, find-nothing}

listed-length : (f : ℕ → ℕ) (i n : ℕ) → length (listed f i n) ≡ n
unfolding listed
listed-length f i zero = refl
listed-length f i (suc n) = ap suc (listed-length f (suc i) n)

listed_at : (f : ℕ → ℕ) (i n k : ℕ) → k < n → get_or (listed f i n) k 0 ≡ f (i + k)
unfolding listed
listed_at f i zero k h = absurd (omega arith)
listed_at f i (suc n) zero h = ap f (omega arith)
listed_at f i (suc n) (suc k) h = listed_at f (suc i) n k (omega arith) ∙ ap f (omega arith)

pub file-length : (p : List ℕ) → length (file_of p) ≡ 512 * blocks_needed (length p)
unfolding file_of
file-length p = listed-length (file_byte p) 0 (512 * blocks_needed (length p))

pub file-at : (p : List ℕ) (i : ℕ) → i < 512 * blocks_needed (length p) → get_or (file_of p) i 0 ≡ file_byte p i
unfolding file_of
file-at p i h = listed_at (file_byte p) 0 (512 * blocks_needed (length p)) i h ∙ ap (file_byte p) (omega arith)

-- ---- the bytes of a word

one_byte : (c : ℕ) → c % 256 + 256 * (c / 256) ≡ c
one_byte c = omega arith

last_byte : (c : ℕ) → c < 4294967296 → c / 256 / 256 / 256 % 256 ≡ c / 256 / 256 / 256
last_byte c h = let k : c / 256 / 256 / 256 < 256 = omega arith in omega arith

joined : (c x y z k l m : ℕ) → k + 256 * x ≡ c → l + 256 * y ≡ x → m + 256 * z ≡ y → k + 256 * l + 65536 * m + 16777216 * z ≡ c
joined c x y z k l m e f g = omega arith

four_bytes : (c : ℕ) → c < 4294967296 → c % 256 + 256 * (c / 256 % 256) + 65536 * (c / 65536 % 256) + 16777216 * (c / 16777216 % 256) ≡ c
four_bytes c h =
    let d2 : c / 65536 ≡ c / 256 / 256 = omega arith in
    let d3 : c / 16777216 ≡ c / 256 / 256 / 256 = omega arith in
    rw (d2, d3, last_byte c h) (joined c (c / 256) (c / 256 / 256) (c / 256 / 256 / 256) _ _ _ (one_byte c) (one_byte (c / 256)) (one_byte (c / 256 / 256)))

pub word-bytes : (c : ℕ) → c < 4294967296 → word_at (word_bytes c) 0 ≡ c
unfolding word_bytes
word-bytes c h = four_bytes c h

-- ---- the contents

content-byte : (p : List ℕ) (b j : ℕ) → j < 508 → b < blocks_needed (length p) → get_or (file_of p) (512 * b + j) 0 ≡ get_or p (508 * b + j) 0
unfolding file_byte
content-byte p b j h l =
    let m : (512 * b + j) % 512 ≡ j = omega arith in
    let d : (512 * b + j) / 512 ≡ b = omega arith in
    file-at p (512 * b + j) (omega arith) ∙ rw (m, d, lt-ltb j 508 h) (ap (λ (n : ℕ). get_or p n 0) (omega arith))

-- zeros after a list: each byte is the list's, or 0
zeros-after : (p : List ℕ) (n i : ℕ) → get_or (p ++ replicate n 0) i 0 ≡ get_or p i 0
zeros-after [] zero i = refl
zeros-after [] (suc n) zero = refl
zeros-after [] (suc n) (suc i) = zeros-after [] n i
zeros-after (x ∷ p) n zero = refl
zeros-after (x ∷ p) n (suc i) = zeros-after p n i

-- "Contents joined in order are the payload, then filler, all zero."
pub file-content : (p : List ℕ) → content (file_of p) ≡ p ++ replicate (508 * blocks_needed (length p) - length p) 0
file-content p =
    let fill = 508 * blocks_needed (length p) - length p in
    let n : length (content (file_of p)) ≡ 508 * blocks_needed (length p) = content-length (file_of p) ∙ omega (arith, file-length p) in
    ext_get_or 0 (content (file_of p)) (p ++ replicate fill 0)
    (n ∙ sym (simp (length-append, length-replicate {A = ℕ}) (omega arith)))
    (λ i h.
    let j : i < 508 * blocks_needed (length p) = omega arith in
    let e : i / 508 * 512 + i % 508 ≡ 512 * (i / 508) + i % 508 = omega arith in
    let f : 508 * (i / 508) + i % 508 ≡ i = omega arith in
    content-at (file_of p) i (omega (arith, file-length p))
    ∙ ap (λ (k : ℕ). get_or (file_of p) k 0) e
    ∙ content-byte p (i / 508) (i % 508) (omega arith) (omega arith)
    ∙ ap (λ (k : ℕ). get_or p k 0) f
    ∙ sym (zeros-after p fill i))

-- so each byte of the contents is the payload's, or 0
pub file-content-at : (p : List ℕ) (i : ℕ) → get_or (content (file_of p)) i 0 ≡ get_or p i 0
file-content-at p i = rw (file-content p) (zeros-after p (508 * blocks_needed (length p) - length p) i)

pub file-content-length : (p : List ℕ) → length (content (file_of p)) ≡ 508 * blocks_needed (length p)
file-content-length p = content-length (file_of p) ∙ omega (arith, file-length p)

-- ---- the checks

word_same : (p : List ℕ) (b n : ℕ) → n < 127 → b < blocks_needed (length p) → word_at (file_of p) (512 * b + 4 * n) ≡ word_at p (508 * b + 4 * n)
word_same p b n h l =
    let at : (k : ℕ) → k < 4 → get_or (file_of p) (512 * b + 4 * n + k) 0 ≡ get_or p (508 * b + 4 * n + k) 0 =
    λ k m. ap (λ (i : ℕ). get_or (file_of p) i 0) (omega arith) ∙ content-byte p b (4 * n + k) (omega arith) l ∙ ap (λ (i : ℕ). get_or p i 0) (omega arith) in
    let zero-at : get_or (file_of p) (512 * b + 4 * n) 0 ≡ get_or p (508 * b + 4 * n) 0 = content-byte p b (4 * n) (omega arith) l in
    rw (zero-at, at 1 (omega arith), at 2 (omega arith), at 3 (omega arith))

sum_same : (p : List ℕ) (b n : ℕ) → n ≤ 127 → b < blocks_needed (length p) → word_sum (file_of p) (512 * b) n ≡ word_sum p (508 * b) n
unfolding word_sum
sum_same p b zero h l = refl
sum_same p b (suc n) h l = cc (sum_same p b n (omega arith) l, word_same p b n (omega arith) l)

check-same : (p : List ℕ) (b : ℕ) → b < blocks_needed (length p) → block_check (file_of p) b ≡ check_for p b
unfolding block_check check_for
check-same p b l = rw (sum_same p b 127 (omega arith) l)

check-small : (p : List ℕ) (b : ℕ) → check_for p b < 4294967296
unfolding check_for
check-small p b = omega arith

stored-byte : (p : List ℕ) (b k : ℕ) → k < 4 → b < blocks_needed (length p) → get_or (file_of p) (512 * b + 508 + k) 0 ≡ get_or (word_bytes (check_for p b)) k 0
unfolding file_byte
stored-byte p b k h l =
    let i = 512 * b + 508 + k in
    let m : i % 512 ≡ 508 + k = omega arith in
    let d : i / 512 ≡ b = omega arith in
    let n : 508 + k - 508 ≡ k = omega arith in
    file-at p i (omega arith) ∙ rw (m, d, le-ltb (508 + k) 508 (omega arith), n)

stored : (p : List ℕ) (b : ℕ) → b < blocks_needed (length p) → word_at (file_of p) (512 * b + 508) ≡ check_for p b
stored p b l =
    let at : (k : ℕ) → k < 4 → get_or (file_of p) (512 * b + 508 + k) 0 ≡ get_or (word_bytes (check_for p b)) k 0 = λ k h. stored-byte p b k h l in
    let first : get_or (file_of p) (512 * b + 508) 0 ≡ get_or (word_bytes (check_for p b)) 0 0 = rw add-zero at (at 0 (omega arith)) in
    rw (first, at 1 (omega arith), at 2 (omega arith), at 3 (omega arith)) (word-bytes (check_for p b) (check-small p b))

-- no check is wrong
pub checks-right : (p : List ℕ) → lowest (check_wrong (file_of p)) (length (file_of p) / 512) ≡ None
unfolding check_wrong
checks-right p =
    find-nothing (check_wrong (file_of p)) 0 (length (file_of p) / 512)
    (λ b lo hi.
    let l : b < blocks_needed (length p) = omega (arith, file-length p) in
    ap not (eq-eqb _ _ (stored p b l ∙ sym (check-same p b l))))
