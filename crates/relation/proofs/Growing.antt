-- The pairs that another relation lacks, row by row; which these are, and how many; and how many pairs closing adds. Assumes nothing.
use mathlib.Core.Path.{◌≡◌, refl, sym, ap, ◌∙◌, subst}
use mathlib.Core.Logic.{inl, ⊎_elim, ◌↔◌}
use mathlib.Core.Bool.{Bool, true, false, ◌&&◌}
use mathlib.Core.List.{List, [], ◌∷◌}
use Prim.Native.Nat.{ℕ, zero, suc, ◌+◌, ◌-◌, ◌*◌, ◌/◌, ◌%◌, ◌<◌, ◌≤◌, max}
use native.Mathlib.Nat.{zero-add, add-zero, mul-le-mul}
use native.Mathlib.Decide.{ℕ_discrete}
use native.Mathlib.Omega.{arith}
use lib.Bits.{bit_or, or_step, or_add_and, and_le_l, or_zero_l, or_zero_r}
use lib.Dec.{T, eqb, eqb→eq}
use lib.ListN.{length, get_or, set}
use Rattle.relation.specs.Bit.{bit}
use Rattle.relation.proofs.BitLaws.{bit-lt, bit-low, bit-half}
use Rattle.relation.specs.Rows.{has, no_pairs, joined, closed, bits_of, count_of}
use Rattle.relation.specs.Chain.{Chain, Within, stop, step}
use Rattle.relation.specs.Growth.{without, growth_of}
use Rattle.relation.proofs.Over.{over, over-turn}
use Rattle.relation.proofs.Pairs.{has-joined}
use Rattle.relation.proofs.ChainLaws.{has-closed, within-closed}
use Rattle.relation.proofs.Algebra.{within-joined, same-pairs}
use Rattle.relation.proofs.Counts.{count-within}

-- an `or` is no less than what goes into it
pub or-more : (x y : ℕ) → y < bit_or x y + 1
or-more x y = omega (arith, or_add_and x y, and_le_l x y)

pub length_without : (xs ys : List ℕ) → length (without xs ys) ≡ length xs
length_without [] ys = refl
length_without (x ∷ xs) [] = refl
length_without (x ∷ xs) (y ∷ ys) = ap suc (length_without xs ys)

pub row-without : (xs ys : List ℕ) (p : ℕ) → get_or (without xs ys) p 0 ≡ bit_or (get_or xs p 0) (get_or ys p 0) - get_or ys p 0
row-without [] ys p = omega (arith, or_zero_l (get_or ys p 0))
row-without (x ∷ xs) [] p = omega (arith, or_zero_r (get_or (x ∷ xs) p 0))
row-without (x ∷ xs) (y ∷ ys) zero = refl
row-without (x ∷ xs) (y ∷ ys) (suc p) = row-without xs ys p

-- a turn of the loop of `without`
pub without-turn : (a b rows : List ℕ) (p v : ℕ) → p < length a → rows ≡ over (without a b) a p
    → v ≡ bit_or (get_or rows p 0) (get_or b p 0) - get_or b p 0 → set rows p v ≡ over (without a b) a (p + 1)
without-turn a b rows p v l r h =
    over-turn (without a b) a rows p v (length_without a b) l r
    (λ g. h ∙ ap (λ (x : ℕ). bit_or x (get_or b p 0) - get_or b p 0) g ∙ sym (row-without a b p))

-- ---- which pairs these are

-- what another number lacks of a number, halved, and its lowest bit
less-half : (x y : ℕ) → (bit_or x y - y) / 2 ≡ bit_or (x / 2) (y / 2) - y / 2
less-half x y = omega (arith, or_step x y, or-more (x / 2) (y / 2))

less-low : (x y : ℕ) → (bit_or x y - y) % 2 + y % 2 ≡ max (x % 2) (y % 2)
less-low x y = omega (arith, or_step x y, or-more (x / 2) (y / 2))

bit-less : (x y q : ℕ) → bit (bit_or x y - y) q + bit y q ≡ max (bit x q) (bit y q)
bit-less x y zero = omega (arith, less-low x y, bit-low (bit_or x y - y), bit-low x, bit-low y)
bit-less x y (suc q) =
    omega (
      arith,
      bit-less (x / 2) (y / 2) q,
      ap (λ (z : ℕ). bit z q) (less-half x y),
      bit-half (bit_or x y - y) q,
      bit-half x q,
      bit-half y q,
    )

less-has : (x y q : ℕ) → (bit (bit_or x y - y) q ≡ 1) ↔ ((bit x q ≡ 1) × (¬ (bit y q ≡ 1)))
less-has x y q = (
  λ h. (omega (arith, bit-less x y q, bit-lt x q, bit-lt y q), λ k. omega (arith, bit-less x y q, bit-lt x q)),
  λ (h, k). on h (ℕ_discrete (bit y q) 1) k,
)
  where
    on : bit x q ≡ 1 → Dec (bit y q ≡ 1) → ¬ (bit y q ≡ 1) → bit (bit_or x y - y) q ≡ 1
    on h (yes e) k = absurd (k e)
    on h (no n) k = omega (arith, bit-less x y q, bit-lt y q)

-- a pair that the first relation has and the second lacks
pub has-without : (xs ys : List ℕ) (p q : ℕ) → has (without xs ys) p q ↔ (has xs p q × (¬ has ys p q))
has-without xs ys p q =
    subst (λ (x : ℕ). (bit x q ≡ 1) ↔ (has xs p q × (¬ has ys p q))) (sym (row-without xs ys p)) (less-has (get_or xs p 0) (get_or ys p 0) q)

-- ---- how many they are

add-rows : (a b c d e f : ℕ) → a + c ≡ e → b + d ≡ f → (a + b) + (c + d) ≡ e + f
add-rows a b c d e f h k = omega arith

bits-less : (d x y : ℕ) → bits_of d (bit_or x y - y) + bits_of d y ≡ bits_of d (bit_or x y)
bits-less zero x y = refl
bits-less (suc d) x y =
    let half : bit_or x y / 2 ≡ bit_or (x / 2) (y / 2) = omega (arith, or_step x y) in
    let low : bit_or x y % 2 ≡ max (x % 2) (y % 2) = omega (arith, or_step x y) in
    add-rows ((bit_or x y - y) % 2) _ (y % 2) _ _ _ (less-low x y ∙ sym low)
    (ap (λ (z : ℕ). bits_of d z + bits_of d (y / 2)) (less-half x y) ∙ bits-less d (x / 2) (y / 2) ∙ ap (bits_of d) (sym half))

-- with the pairs of the second, as many as both have
count-without : (xs ys : List ℕ) → count_of (without xs ys) + count_of ys ≡ count_of (joined xs ys)
count-without [] ys = zero-add (count_of ys)
count-without (x ∷ xs) [] = add-zero (count_of (x ∷ xs))
count-without (x ∷ xs) (y ∷ ys) =
    add-rows (bits_of 32 (bit_or x y - y)) (count_of (without xs ys)) (bits_of 32 y) (count_of ys) (bits_of 32 (bit_or x y)) (count_of (joined xs ys))
    (bits-less 32 x y) (count-without xs ys)

-- ---- what closing adds

module _ (n : ℕ) (R : List ℕ) (few : n ≤ 24) (w : Within n R) where
  -- it takes no pair away
  closed-has : (p q : ℕ) → has R p q → has (closed n R) p q
  closed-has p q h = (has-closed n R few w p q).1 (step h (stop (w.inside p q h).1))

  joined-closed : joined (closed n R) R ≡ closed n R
  joined-closed =
      let v = within-closed n R few w in
      same-pairs {n = n} (joined (closed n R) R) (closed n R) (within-joined n (closed n R) R v w) v
      (λ p q. (λ h. ⊎_elim (λ g. g) (closed-has p q) ((has-joined (closed n R) R p q).0 h), λ h. (has-joined (closed n R) R p q).1 (inl h)))

  -- the growth is the difference of the counts
  pub growth-count : growth_of n R + count_of R ≡ count_of (closed n R)
  unfolding growth_of
  growth-count = count-without (closed n R) R ∙ ap count_of joined-closed

  -- the pairs that closing adds are the chains that were no pairs
  pub has-grown : (p q : ℕ) → has (without (closed n R) R) p q ↔ (Chain n R p q × (¬ has R p q))
  has-grown p q = (
    λ h. let c = (has-without (closed n R) R p q).0 h in ((has-closed n R few w p q).0 c.0, c.1),
    λ c. (has-without (closed n R) R p q).1 ((has-closed n R few w p q).1 c.0, c.1),
  )

  -- at most 24 * 24
  pub growth-few : growth_of n R ≤ 576
  growth-few =
      let square : n * n ≤ 24 * 24 = mul-le-mul few few in
      omega (arith, growth-count, count-within n (closed n R) (within-closed n R few w), square)

-- An empty relation grows by n, the pairs (p, p): computed, for each n below k.
unfoldable alone : ℕ → Bool
alone zero = true
alone (suc k) = eqb (growth_of k no_pairs) k && alone k

both : (a b : Bool) → T (a && b) → T a × T b
both true b t = (tt, t)
both false b t = absurd t

of-alone : (k n : ℕ) → n < k → T (alone k) → growth_of n no_pairs ≡ n
unfolding alone
of-alone zero n l t = absurd (omega arith)
of-alone (suc k) n l t =
    let parts = both (eqb (growth_of k no_pairs) k) (alone k) t in
    last (of-alone k n) parts.1 (eqb→eq (growth_of k no_pairs) k parts.0) (ℕ_discrete n k)
  where
    last : (n < k → T (alone k) → growth_of n no_pairs ≡ n) → T (alone k) → growth_of k no_pairs ≡ k → Dec (n ≡ k) → growth_of n no_pairs ≡ n
    last before t here (yes e) = subst (λ (i : ℕ). growth_of i no_pairs ≡ i) (sym e) here
    last before t here (no f) = before (omega arith) t

pub growth-empty : (n : ℕ) → n ≤ 24 → growth_of n no_pairs ≡ n
unfolding alone growth_of
growth-empty n l = of-alone 25 n (omega arith) tt
