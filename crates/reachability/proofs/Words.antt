-- Words of states: what an `or` adds, one word of a list stored anew, and the weight of two lists.
-- Assumes nothing.
use Prim.Native.Nat.{ℕ, zero, suc, ◌+◌, ◌-◌, ◌*◌, ◌/◌, ◌%◌, ◌^◌, ◌≤◌, ◌<◌, max}
use native.Mathlib.Decide.{ℕ_discrete}
use native.Mathlib.Omega.{arith}
use mathlib.Core.Path.{◌≡◌, sym, ap, ap₂, ◌∙◌, subst}
use mathlib.Core.Logic.{◌⊎◌, inl, inr}
use mathlib.Core.List.{List, [], ◌∷◌}
use lib.Bits.{bit_or, or_step, or_add_and, and_le_r}
use lib.ListN.{length, get_or, set}
use lib.Seq.{get_or-set_same, get_or-set_other}
use Rattle.relation.specs.Bit.{bit}
use Rattle.relation.proofs.BitLaws.{bit-lt, bit-off, bit-low, bit-half}
use Rattle.algorithms.specs.Automaton.{In}
use Rattle.reachability.specs.Growth.{weight}

-- ---- what an `or` adds

pub or-over : (a b : ℕ) → a ≤ bit_or a b
or-over a b = omega (arith, or_add_and a b, and_le_r a b)

pub or-within : (a b : ℕ) → bit_or a b ≤ a + b
or-within a b = omega (arith, or_add_and a b)

minus-bit : (q a b : ℕ) → bit (bit_or a b - a) q ≡ bit (bit_or a b) q - bit a q
minus-bit zero a b =
    let x = bit_or (a / 2) (b / 2) in
    let m = max (a % 2) (b % 2) in
    let o : bit_or a b % 2 ≡ m = omega (arith, or_step a b) in
    let d : bit_or a b - a ≡ (x - a / 2) * 2 + (m - a % 2) = omega (arith, or_step a b, or-over (a / 2) (b / 2)) in
    let e : (bit_or a b - a) % 2 ≡ m - a % 2 = omega (arith, d) in
    bit-low (bit_or a b - a) ∙ e ∙ ap₂ (λ (x y : ℕ). x - y) (sym (bit-low (bit_or a b) ∙ o)) (sym (bit-low a))
minus-bit (suc q) a b =
    let o : bit_or a b / 2 ≡ bit_or (a / 2) (b / 2) = omega (arith, or_step a b) in
    let d : (bit_or a b - a) / 2 ≡ bit_or (a / 2) (b / 2) - a / 2 = omega (arith, or_step a b, or-over (a / 2) (b / 2)) in
    sym (bit-half (bit_or a b - a) q) ∙ ap (λ (x : ℕ). bit x q) d ∙ minus-bit q (a / 2) (b / 2)
    ∙ ap₂ (λ (x y : ℕ). x - y) (ap (λ (x : ℕ). bit x q) (sym o) ∙ bit-half (bit_or a b) q) (bit-half a q)

-- the difference has the members that are new
module _ (a b q : ℕ) where
  pub new_in : In (bit_or a b - a) q → In (bit_or a b) q
  new_in h = omega (arith, minus-bit q a b, bit-lt (bit_or a b) q)

  pub new-on : In (bit_or a b) q → (In a q → ⊥) → In (bit_or a b - a) q
  new-on h n = omega (arith, minus-bit q a b, bit-off a q n)

-- ---- one word of a list stored anew

module _ (L : List ℕ) (i v : ℕ) (l : i < length L) (j q : ℕ) where
  pub of-set : In (get_or (set L i v) j 0) q → ((j ≡ i) × In v q) ⊎ ((j ≡ i → ⊥) × In (get_or L j 0) q)
  of-set h = go (ℕ_discrete j i)
    where
      go : Dec (j ≡ i) → ((j ≡ i) × In v q) ⊎ ((j ≡ i → ⊥) × In (get_or L j 0) q)
      go (yes e) = inl (e, subst (λ (x : ℕ). In x q) (ap (λ (k : ℕ). get_or (set L i v) k 0) e ∙ get_or-set_same L i v 0 l) h)
      go (no n) = inr (n, subst (λ (x : ℕ). In x q) (get_or-set_other L i j v 0 n) h)

  pub set_here : j ≡ i → In v q → In (get_or (set L i v) j 0) q
  set_here e h = subst (λ (x : ℕ). In x q) (sym (ap (λ (k : ℕ). get_or (set L i v) k 0) e ∙ get_or-set_same L i v 0 l)) h

  pub set_there : (j ≡ i → ⊥) → In (get_or L j 0) q → In (get_or (set L i v) j 0) q
  set_there n h = subst (λ (x : ℕ). In x q) (sym (get_or-set_other L i j v 0 n)) h

  pub set_more : (In (get_or L i 0) q → In v q) → In (get_or L j 0) q → In (get_or (set L i v) j 0) q
  set_more f h = go (ℕ_discrete j i)
    where
      go : Dec (j ≡ i) → In (get_or (set L i v) j 0) q
      go (yes e) = set_here e (f (subst (λ (k : ℕ). In (get_or L k 0) q) e h))
      go (no n) = set_there n h

-- ---- the weight

pub weight-set : (R F : List ℕ) (i r f : ℕ) → i < length R → i < length F
    → weight (set R i r) (set F i f) + ((2 ^ 32 - get_or R i 0) * 2 + get_or F i 0) ≡ weight R F + ((2 ^ 32 - r) * 2 + f)
unfolding weight
weight-set [] F i r f l m = absurd (omega arith)
weight-set (x ∷ R) [] i r f l m = absurd (omega arith)
weight-set (x ∷ R) (y ∷ F) zero r f l m = omega arith
weight-set (x ∷ R) (y ∷ F) (suc i) r f l m = omega (arith, weight-set R F i r f (omega arith) (omega arith))

pub weight-taken : (R F : List ℕ) (i : ℕ) → i < length R → i < length F → weight R (set F i 0) + get_or F i 0 ≡ weight R F
unfolding weight
weight-taken [] F i l m = absurd (omega arith)
weight-taken (x ∷ R) [] i l m = absurd (omega arith)
weight-taken (x ∷ R) (y ∷ F) zero l m = omega arith
weight-taken (x ∷ R) (y ∷ F) (suc i) l m = omega (arith, weight-taken R F i (omega arith) (omega arith))
