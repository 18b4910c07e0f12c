-- The number of pairs: a relation inside another has no more, closing takes none away, over n states there are at most n * n; and which
-- relations have at most one. Assumes nothing.
use Prim.Native.Nat.{ℕ, zero, suc, ◌+◌, ◌*◌, ◌/◌, ◌%◌, ◌<◌, ◌≤◌}
use native.Mathlib.Nat.{suc-mul}
use native.Mathlib.Decide.{dec_lt, ℕ_discrete}
use native.Mathlib.Omega.{arith}
use mathlib.Core.Path.{◌≡◌, refl, sym, ap, ◌∙◌}
use mathlib.Core.Logic.{◌⊎◌, inl, inr, ◌↔◌}
use mathlib.Core.List.{List, [], ◌∷◌}
use Rattle.relation.specs.Bit.{bit}
use Rattle.relation.proofs.BitLaws.{bit-zero, bit-low, bit-half, some-bit}
use Rattle.relation.specs.Chain.{stop, step, Within}
use Rattle.relation.proofs.ChainLaws.{has-closed}
use Rattle.relation.specs.Rows.{has, closed, bits_of, count_of}

add-both : {a b c d : ℕ} → a ≤ b → c ≤ d → a + c ≤ b + d
add-both h k = omega arith

-- a number whose bits another has does not have more of them
bits_inside : (d x y : ℕ) → ((q : ℕ) → bit x q ≡ 1 → bit y q ≡ 1) → bits_of d x ≤ bits_of d y
bits_inside zero x y h = omega arith
bits_inside (suc d) x y h =
    add-both (low (dec_lt (x % 2) 1)) (bits_inside d (x / 2) (y / 2) (λ q e. bit-half y q ∙ h (suc q) (sym (bit-half x q) ∙ e)))
  where
    low : Dec (x % 2 < 1) → x % 2 ≤ y % 2
    low (yes off) = omega arith
    low (no on) =
        let one : x % 2 ≡ 1 = omega arith in
        omega (arith, sym (bit-low y) ∙ h 0 (bit-low x ∙ one))

-- each pair of the first is one of the second
pub count-inside : (xs ys : List ℕ) → ((p q : ℕ) → has xs p q → has ys p q) → count_of xs ≤ count_of ys
count-inside [] ys h = omega arith
count-inside (x ∷ xs) [] h = add-both (bits_inside 32 x 0 (λ q. h 0 q)) (count-inside xs [] (λ p q. h (suc p) q))
count-inside (x ∷ xs) (y ∷ ys) h = add-both (bits_inside 32 x y (λ q. h 0 q)) (count-inside xs ys (λ p q. h (suc p) q))

-- so closing takes none away
pub closed-more : (n : ℕ) (R : List ℕ) → n ≤ 24 → Within n R → count_of R ≤ count_of (closed n R)
closed-more n R few w = count-inside R (closed n R) (λ p q h. (has-closed n R few w p q).1 (step h (stop (w.inside p q h).1)))

-- ---- pairs of states below n

add-up : {a b c d k : ℕ} → a ≤ b → c ≤ d → b + d ≡ k → a + c ≤ k
add-up h i e = omega arith

bits-few : (d n x : ℕ) → ((q : ℕ) → bit x q ≡ 1 → q < n) → bits_of d x ≤ n
bits-few zero n x h = omega arith
bits-few (suc d) zero x h = add-both (none (dec_lt (x % 2) 1)) (bits-few d 0 (x / 2) (λ q e. absurd (omega (arith, h (suc q) (sym (bit-half x q) ∙ e)))))
  where
    none : Dec (x % 2 < 1) → x % 2 ≤ 0
    none (yes off) = omega arith
    none (no on) = let one : x % 2 ≡ 1 = omega arith in absurd (omega (arith, h 0 (bit-low x ∙ one)))
bits-few (suc d) (suc n) x h =
    let low : x % 2 ≤ 1 = omega arith in
    let e : 1 + n ≡ suc n = omega arith in
    add-up low (bits-few d n (x / 2) (λ q e. omega (arith, h (suc q) (sym (bit-half x q) ∙ e)))) e

rows_few : (m n : ℕ) (rows : List ℕ) → ((p q : ℕ) → has rows p q → (p < m) × (q < n)) → count_of rows ≤ m * n
rows_few m n [] h = omega arith
rows_few zero n (row ∷ rows) h =
    let e : 0 + 0 * n ≡ 0 * n = omega arith in
    add-up (bits-few 32 0 row (λ q k. absurd (omega (arith, (h 0 q k).0)))) (rows_few 0 n rows (λ p q k. absurd (omega (arith, (h (suc p) q k).0)))) e
rows_few (suc m) n (row ∷ rows) h =
    let e : n + m * n ≡ suc m * n = omega (arith, suc-mul m n) in
    add-up (bits-few 32 n row (λ q k. (h 0 q k).1)) (rows_few m n rows (λ p q k. (omega (arith, (h (suc p) q k).0), (h (suc p) q k).1))) e

pub count-within : (n : ℕ) (R : List ℕ) → Within n R → count_of R ≤ n * n
count-within n R w = rows_few n n R w.inside

-- ---- at most one member, and at most one pair

-- a member is counted
pub bits-some : (d x q : ℕ) → q < d → bit x q ≡ 1 → 1 ≤ bits_of d x
bits-some zero x q l e = absurd (omega arith)
bits-some (suc d) x zero l e = omega (arith, bit-low x)
bits-some (suc d) x (suc q) l e = omega (arith, bits-some d (x / 2) q (omega arith) (bit-half x q ∙ e))

-- two members of a set that counts one are the same
pub bits-same : (d x p q : ℕ) → bits_of d x ≤ 1 → p < d → q < d → bit x p ≡ 1 → bit x q ≡ 1 → p ≡ q
bits-same zero x p q n l m e f = absurd (omega arith)
bits-same (suc d) x zero zero n l m e f = refl
bits-same (suc d) x zero (suc q) n l m e f =
    absurd (omega (arith, bit-low x, bits-some d (x / 2) q (omega arith) (bit-half x q ∙ f)))
bits-same (suc d) x (suc p) zero n l m e f =
    absurd (omega (arith, bit-low x, bits-some d (x / 2) p (omega arith) (bit-half x p ∙ e)))
bits-same (suc d) x (suc p) (suc q) n l m e f =
    ap suc (bits-same d (x / 2) p q (omega arith) (omega arith) (omega arith) (bit-half x p ∙ e) (bit-half x q ∙ f))

-- a set of which all members are the same counts one at the most
pub bits-one : (d x : ℕ) → ((p q : ℕ) → bit x p ≡ 1 → bit x q ≡ 1 → p ≡ q) → bits_of d x ≤ 1
bits-one zero x h = omega arith
bits-one (suc d) x h = low (dec_lt (x % 2) 1) (bits-one d (x / 2) (λ p q e f. omega (arith, h (suc p) (suc q) (sym (bit-half x p) ∙ e) (sym (bit-half x q) ∙ f))))
  where
    low : Dec (x % 2 < 1) → bits_of d (x / 2) ≤ 1 → x % 2 + bits_of d (x / 2) ≤ 1
    low (yes off) n = omega arith
    low (no on) n =
        let zeroth : bit x 0 ≡ 1 = omega (arith, bit-low x) in
        omega (arith, bits-few d 0 (x / 2) (λ q e. absurd (omega (arith, h 0 (suc q) zeroth (sym (bit-half x q) ∙ e)))))

-- all pairs of a relation are the same
abbrev pub OnePair : List ℕ → Type 0
OnePair rows = (p q p' q' : ℕ) → has rows p q → has rows p' q' → (p ≡ p') × (q ≡ q')

-- its rows are sets of numbers below 32
abbrev pub Words : List ℕ → Type 0
Words rows = (p q : ℕ) → has rows p q → q < 32

-- two counts that make one at the most
few-of : (a b : ℕ) → a + b ≤ 1 → (a ≤ 1) × (b ≤ 1) × (1 ≤ a → 1 ≤ b → ⊥)
few-of a b n = (omega arith, omega arith, λ h k. omega arith)

some_of : (a b : ℕ) → (1 ≤ a) ⊎ (1 ≤ b) → 1 ≤ a + b
some_of a b (inl h) = omega arith
some_of a b (inr h) = omega arith

count-some : (rows : List ℕ) → Words rows → (p q : ℕ) → has rows p q → 1 ≤ count_of rows
count-some [] w p q h = absurd (omega (arith, bit-zero q))
count-some (row ∷ rows) w zero q h = some_of (bits_of 32 row) (count_of rows) (inl (bits-some 32 row q (w 0 q h) h))
count-some (row ∷ rows) w (suc p) q h = some_of (bits_of 32 row) (count_of rows) (inr (count-some rows (λ i j. w (suc i) j) p q h))

of-count : (rows : List ℕ) → Words rows → count_of rows ≤ 1 → OnePair rows
of-count [] w n p q p' q' h k = absurd (omega (arith, bit-zero q))
of-count (row ∷ rows) w n zero q zero q' h k = (refl, bits-same 32 row q q' (few-of (bits_of 32 row) (count_of rows) n).0 (w 0 q h) (w 0 q' k) h k)
of-count (row ∷ rows) w n zero q (suc p') q' h k =
    absurd ((few-of (bits_of 32 row) (count_of rows) n).2 (bits-some 32 row q (w 0 q h) h) (count-some rows (λ i j. w (suc i) j) p' q' k))
of-count (row ∷ rows) w n (suc p) q zero q' h k =
    absurd ((few-of (bits_of 32 row) (count_of rows) n).2 (bits-some 32 row q' (w 0 q' k) k) (count-some rows (λ i j. w (suc i) j) p q h))
of-count (row ∷ rows) w n (suc p) q (suc p') q' h k =
    let same = of-count rows (λ i j. w (suc i) j) (few-of (bits_of 32 row) (count_of rows) n).1 p q p' q' h k in
    (ap suc same.0, same.1)

to-count : (rows : List ℕ) → OnePair rows → count_of rows ≤ 1
to-count [] one = omega arith
to-count (row ∷ rows) one = by (ℕ_discrete row 0) (to-count rows (λ p q p' q' h k. let same = one (suc p) q (suc p') q' h k in (suc_inj same.0, same.1)))
  where
    suc_inj : {a b : ℕ} → suc a ≡ suc b → a ≡ b
    suc_inj e = omega arith

    by : Dec (row ≡ 0) → count_of rows ≤ 1 → bits_of 32 row + count_of rows ≤ 1
    by (yes none) n =
        add-up (bits-few 32 0 row (λ q e. absurd (omega (arith, ap (λ (x : ℕ). bit x q) none, bit-zero q)))) n refl
    by (no some) n =
        let b = some-bit row some in
        add-up (bits-one 32 row (λ p q e f. (one 0 p 0 q e f).1)) (rows_few 0 0 rows (λ p q h. absurd (omega (arith, (one 0 b.0 (suc p) q b.1 h).0)))) refl

pub count-one : (rows : List ℕ) → Words rows → (count_of rows ≤ 1) ↔ OnePair rows
count-one rows w = (of-count rows w, to-count rows)
