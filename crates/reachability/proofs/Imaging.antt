-- The loop over the states of a set, lowest first, that joins their rows.
-- Assumes nothing.
use Prim.Native.Nat.{ℕ, ◌+◌, ◌%◌, ◌^◌, ◌<◌}
use native.Mathlib.Nat.{mod-lt}
use native.Mathlib.Omega.{arith}
use mathlib.Core.Path.{◌≡◌, sym, ◌∙◌, subst}
use mathlib.Core.Logic.{◌⊎◌, inl, inr, ⊎_elim}
use mathlib.Core.List.{List}
use lib.Bits.{bit_or}
use lib.ListN.{get_or}
use lib.Pow.{pow_pos}
use Rattle.relation.specs.Lowest.{lowest_of, rest_of}
use Rattle.relation.proofs.BitLaws.{bit-zero, bit_below, or-has}
use Rattle.relation.proofs.LowestLaws.{lowest-on, rest-less, rest_in, rest_out}
use Rattle.relation.proofs.Members.{bit-mod, lowest-row}
use Rattle.algorithms.specs.Automaton.{In}
use Rattle.reachability.specs.Growth.{Image}

-- x has the numbers in the rows of those states of the set that are not left in `rest`
pub record Joining (table : List ℕ) (at set rest x : ℕ) : Type 0 where
  pub small : rest < 2 ^ 24
  pub within : (p : ℕ) → In rest p → In set p
  pub from : (q : ℕ) → In x q → (p : ℕ) × (p < 24) × In set p × In (get_or table (at + p) 0) q
  pub into : (p q : ℕ) → p < 24 → In set p → In (get_or table (at + p) 0) q → In x q ⊎ In rest p

pub joining-none : (table : List ℕ) (at set : ℕ) → Joining table at set (set % 2 ^ 24) 0
joining-none table at set =
    let small : set % 2 ^ 24 < 2 ^ 24 = mod-lt set (pow_pos 24) in
    record {
      small = small;
      within = λ p h. sym (bit-mod set 24 p (bit_below (set % 2 ^ 24) 24 p small h)) ∙ h;
      from = λ q h. absurd (omega (arith, bit-zero q, h));
      into = λ p q l h g. inr (bit-mod set 24 p l ∙ h);
    }

pub joining-more : (table : List ℕ) (at set : ℕ) {rest x : ℕ} (k r i : ℕ) → 0 < rest → k ≡ lowest_of rest → r ≡ rest_of rest → i ≡ at + k
    → Joining table at set rest x → Joining table at set r (bit_or x (get_or table i 0))
joining-more table at set {rest} {x} k r i some e f g s =
    record {
      small = omega (arith, rest-less rest some wide, s.small);
      within = λ p h. s.within p (rest_in rest some wide p (subst (λ (y : ℕ). In y p) f h));
      from = λ q h. ⊎_elim (λ a. s.from q a) (λ a. (k, lowest-row s.small e some, lowest, subst (λ (j : ℕ). In (get_or table j 0) q) g a)) ((or-has x (get_or table i 0) q).0 h);
      into = λ p q l h a. ⊎_elim (λ b. inl ((or-has x (get_or table i 0) q).1 (inl b))) (λ b. left p q a (rest_out rest some wide p b)) (s.into p q l h a);
    }
  where
    wide : rest < 2 ^ 32
    wide = omega (arith, s.small)

    lowest : In set k
    lowest = s.within k (subst (λ (j : ℕ). In rest j) (sym e) (lowest-on rest some wide))

    left : (p q : ℕ) → In (get_or table (at + p) 0) q → In (rest_of rest) p ⊎ (p ≡ lowest_of rest) → In (bit_or x (get_or table i 0)) q ⊎ In r p
    left p q a (inl b) = inr (subst (λ (y : ℕ). In y p) (sym f) b)
    left p q a (inr b) =
        let same : at + p ≡ i = omega arith in
        inl ((or-has x (get_or table i 0) q).1 (inr (subst (λ (j : ℕ). In (get_or table j 0) q) same a)))

pub joining-done : (table : List ℕ) (at set : ℕ) {rest x : ℕ} → rest ≡ 0 → Joining table at set rest x → Image table at set x
joining-done table at set {rest} e s =
    record {
      from = s.from;
      into = λ p q l h a. ⊎_elim (λ b. b) (λ b. absurd (omega (arith, bit-zero p, subst (λ (y : ℕ). In y p) e b))) (s.into p q l h a);
    }
