-- Laws of answers counted in turn: those of two lists end to end, and of a full tally. Assumes nothing.
use Rattle.std.proofs.Common.{Err}
use Prim.Native.Nat.{ℕ, ◌-◌, ◌*◌}
use mathlib.Core.Path.{◌≡◌, refl, ap, ◌∙◌}
use mathlib.Core.List.{List, [], ◌∷◌, ◌++◌}
use native.Mathlib.Omega.{arith}
use lib.ListN.{length}
use Rattle.refusal.specs.declared.Refusal.{Refusal}
use Rattle.tally.specs.Tally.{limit_check, counted_up}
use Rattle.tally.specs.declared.Outcome.{Outcome}
use Rattle.tally.specs.declared.Tally.{Tally}
use Rattle.counting.specs.Counting.{outcome_numbered, counted_all}

-- whole answers, and then the rest
pub counted-append : (t : Tally) (l r : List ℕ) (n : ℕ) → length l ≡ 3 * n → counted_all t (l ++ r) ≡ counted_all (counted_all t l) r
unfolding counted_all
counted-append t [] r n e = refl
counted-append t (a ∷ []) r n e = absurd (omega (arith, e))
counted-append t (a ∷ number ∷ []) r n e = absurd (omega (arith, e))
counted-append t (a ∷ number ∷ place ∷ l) r n e = counted-append (counted_up t (outcome_numbered a)).tally l r (n - 1) (omega (arith, e))

-- a full tally stays
full-one : (t : Tally) (r : Refusal) (o : Outcome) → limit_check t ≡ Err r → (counted_up t o).tally ≡ t
unfolding counted_up
full-one t r o e = rw e refl

pub counted-full : (t : Tally) (r : Refusal) (l : List ℕ) → limit_check t ≡ Err r → counted_all t l ≡ t
unfolding counted_all
counted-full t r [] e = refl
counted-full t r (a ∷ []) e = refl
counted-full t r (a ∷ number ∷ []) e = refl
counted-full t r (a ∷ number ∷ place ∷ l) e = ap (λ (u : Tally). counted_all u l) (full-one t r (outcome_numbered a) e) ∙ counted-full t r l e
