-- How the words of states grow: by nothing, by one addition after another, and by the states at one node.
-- Assumes nothing.
use Prim.Native.Nat.{ℕ, ◌-◌, ◌^◌, ◌≤◌, ◌<◌}
use native.Mathlib.Decide.{ℕ_discrete}
use native.Mathlib.Omega.{arith}
use mathlib.Core.Path.{◌≡◌, sym, ◌∙◌, subst}
use mathlib.Core.Logic.{◌⊎◌, inl, inr, ⊎_elim}
use mathlib.Core.Bool.{true, false}
use mathlib.Core.List.{List}
use borrow.Author.Tests.{eqb-true, eq-eqb}
use lib.Bits.{bit_or}
use lib.Dec.{eqb}
use lib.ListN.{length, get_or, set}
use Rattle.relation.specs.Bit.{bit}
use Rattle.relation.proofs.BitLaws.{or-has}
use Rattle.model.specs.declared.Move.{Move}
use Rattle.algorithms.specs.Automaton.{In}
use Rattle.refusal.proofs.Passed.{clash}
use Rattle.steps.specs.Choices.{Makes}
use Rattle.steps.specs.Successors.{goes}
use Rattle.steps.specs.Leads.{arrives}
use Rattle.reachability.specs.Growth.{Grown, Spread, Here, Sent, Either}
use Rattle.reachability.proofs.Words.{or-over, or-within, new_in, new-on, of-set, set_here, set_more, weight-set}

pub grown-none : (R F : List ℕ) → Grown R F R F
grown-none R F =
    record { more = λ i q h. h; kept = λ i q h. h; new = λ i q h. inl h; inside = λ i q h. inl h; falls = omega arith }

module _ {R F R₁ F₁ R₂ F₂ : List ℕ} where
  pub grown-then : Grown R F R₁ F₁ → Grown R₁ F₁ R₂ F₂ → Grown R F R₂ F₂
  grown-then a b =
      record {
        more = λ i q h. b.more i q (a.more i q h);
        kept = λ i q h. b.kept i q (a.kept i q h);
        new = λ i q h. ⊎_elim (λ g. ⊎_elim inl (λ f. inr (b.kept i q f)) (a.new i q g)) inr (b.new i q h);
        inside = λ i q h. ⊎_elim (λ g. ⊎_elim inl (λ f. inr (b.more i q f)) (a.inside i q g)) inr (b.inside i q h);
        falls = omega (arith, a.falls, b.falls);
      }

  pub spread-then : {n : ℕ} {S T : ℕ → ℕ → Type 0} → Spread n S R F R₁ F₁ → Spread n T R₁ F₁ R₂ F₂ → Spread n (Either S T) R F R₂ F₂
  spread-then a b =
      record {
        grown = grown-then a.grown b.grown;
        all = λ j q l. ⊎_elim (λ s. b.grown.more j q (a.all j q l s)) (λ t. b.all j q l t);
        only = λ j q h. ⊎_elim (λ g. ⊎_elim inl (λ s. inr (s.0, inl s.1)) (a.only j q g)) (λ t. inr (t.0, inr t.1)) (b.only j q h);
      }

module _ (n : ℕ) {S : ℕ → ℕ → Type 0} {R F : List ℕ} where
  -- where all is there already, nothing is added
  pub spread_same : ((j q : ℕ) → j < n → S j q → In (get_or R j 0) q) → Spread n S R F R F
  spread_same f = record { grown = grown-none R F; all = f; only = λ j q h. inl h }

  pub spread-map : {T : ℕ → ℕ → Type 0} {R' F' : List ℕ} → ((j q : ℕ) → S j q → T j q) → ((j q : ℕ) → T j q → S j q) → Spread n S R F R' F'
      → Spread n T R F R' F'
  spread-map f g a =
      record {
        grown = a.grown;
        all = λ j q l t. a.all j q l (g j q t);
        only = λ j q h. ⊎_elim inl (λ s. inr (s.0, f j q s.1)) (a.only j q h);
      }

-- ---- the states of a set at one node

module _ (n i x : ℕ) (R F : List ℕ) where
  abbrev old : ℕ
  old = get_or R i 0

  abbrev all_there : ℕ
  all_there = bit_or old x

  abbrev fresh-there : ℕ
  fresh-there = bit_or (get_or F i 0) (all_there - old)

  pub added-past : n ≤ i → Spread n (Here i x) R F R F
  added-past h = spread_same n (λ j q l s. absurd (omega (arith, s.0)))

  pub added_none : all_there ≡ old → Spread n (Here i x) R F R F
  added_none e =
      spread_same n (λ j q l s. subst (λ (k : ℕ). In (get_or R k 0) q) (sym s.0) (subst (λ (y : ℕ). In y q) e ((or-has old x q).1 (inr s.1))))

  pub added : i < n → n ≤ length R → n ≤ length F → all_there < 2 ^ 32 → Spread n (Here i x) R F (set R i all_there) (set F i fresh-there)
  added l long long' small =
      record {
        grown =
            record {
              more = λ j q. set_more R i all_there in-R j q (λ h. (or-has old x q).1 (inl h));
              kept = λ j q. set_more F i fresh-there in-F j q (λ h. (or-has (get_or F i 0) (all_there - old) q).1 (inl h));
              new = λ j q h. ⊎_elim (λ s. fresh-one j q s.0 s.1 (ℕ_discrete (bit old q) 1)) (λ s. inl s.1) (of-set R i all_there in-R j q h);
              inside = λ j q h. ⊎_elim (λ s. reached-one j q s.0 s.1) (λ s. inl s.1) (of-set F i fresh-there in-F j q h);
              falls = omega (arith, weight-set R F i all_there fresh-there in-R in-F, or-over old x, small, or-within (get_or F i 0) (all_there - old));
            };
        all = λ j q k s. set_here R i all_there in-R j q s.0 ((or-has old x q).1 (inr s.1));
        only = λ j q h. ⊎_elim (λ s. added-one j q s.0 ((or-has old x q).0 s.1)) (λ s. inl s.1) (of-set R i all_there in-R j q h);
      }
    where
      in-R : i < length R
      in-R = omega arith

      in-F : i < length F
      in-F = omega arith

      fresh-one : (j q : ℕ) → j ≡ i → In all_there q → Dec (In old q) → In (get_or R j 0) q ⊎ In (get_or (set F i fresh-there) j 0) q
      fresh-one j q e h (yes k) = inl (subst (λ (m : ℕ). In (get_or R m 0) q) (sym e) k)
      fresh-one j q e h (no k) = inr (set_here F i fresh-there in-F j q e ((or-has (get_or F i 0) (all_there - old) q).1 (inr (new-on old x q h k))))

      reached-one : (j q : ℕ) → j ≡ i → In fresh-there q → In (get_or F j 0) q ⊎ In (get_or (set R i all_there) j 0) q
      reached-one j q e h =
          ⊎_elim (λ k. inl (subst (λ (m : ℕ). In (get_or F m 0) q) (sym e) k)) (λ k. inr (set_here R i all_there in-R j q e (new_in old x q k)))
          ((or-has (get_or F i 0) (all_there - old) q).0 h)

      added-one : (j q : ℕ) → j ≡ i → In old q ⊎ In x q → In (get_or R j 0) q ⊎ ((j < n) × Here i x j q)
      added-one j q e (inl h) = inl (subst (λ (m : ℕ). In (get_or R m 0) q) (sym e) h)
      added-one j q e (inr h) = inr (omega arith, (e, h))

-- ---- the states of a set where a move leads

module _ (n : ℕ) (P Q : List ℕ) (i : ℕ) (μ : Move) (x : ℕ) {R F : List ℕ} where
  pub sent-nowhere : ((j q : ℕ) → arrives (goes P Q i (Makes μ q)) j ≡ false) → Spread n (Sent P Q i μ x) R F R F
  sent-nowhere f = spread_same n (λ j q l s. let e : true ≡ false = sym s.0 ∙ f j q in clash (cc))

  pub sent-to : (k : ℕ) {R' F' : List ℕ} → ((j q : ℕ) → arrives (goes P Q i (Makes μ q)) j ≡ eqb k j) → Spread n (Here k x) R F R' F'
      → Spread n (Sent P Q i μ x) R F R' F'
  sent-to k f = spread-map n (λ j q s. (f j q ∙ eq-eqb k j (sym s.0), s.1)) (λ j q s. (sym (eqb-true k j (sym (f j q) ∙ s.0)), s.1))
