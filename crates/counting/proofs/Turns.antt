-- Laws of a count that has come to answer i. Assumes nothing.
use Rattle.std.proofs.Common.{◌≡◌, ℕ, ◌+◌, ◌*◌, ◌/◌, ◌≤◌, ◌<◌, List, [], ◌∷◌, length, get_or, drop, refl, ap, ◌∙◌, arith, length-drop, drop-drop}
use lib.Seq.{get_or-drop}
use Rattle.tally.specs.Tally.{counted_up}
use Rattle.tally.specs.declared.Tally.{Tally}
use Rattle.counting.specs.Counting.{outcome_numbered, counted_all}

-- fewer than three numbers are no answer
short : (t : Tally) (l : List ℕ) → length l < 3 → counted_all t l ≡ t
unfolding counted_all
short t [] h = refl
short t (a ∷ []) h = refl
short t (a ∷ number ∷ []) h = refl
short t (a ∷ number ∷ place ∷ l) h = absurd (omega (arith, h))

-- an answer has three numbers
whole : (t : Tally) (l : List ℕ) → 3 ≤ length l
    → counted_all t l ≡ counted_all (counted_up t (outcome_numbered (get_or l 0 0))).tally (drop 3 l)
unfolding counted_all
whole t [] h = absurd (omega (arith, h))
whole t (a ∷ []) h = absurd (omega (arith, h))
whole t (a ∷ number ∷ []) h = absurd (omega (arith, h))
whole t (a ∷ number ∷ place ∷ l) h = refl

module _ (t : Tally) (s : List ℕ) (i : ℕ) where
  pub turn-taken : i < length s / 3
      → counted_all t (drop (3 * i) s) ≡ counted_all (counted_up t (outcome_numbered (get_or s (3 * i) 0))).tally (drop (3 * (i + 1)) s)
  turn-taken h =
      let here : get_or (drop (3 * i) s) 0 0 ≡ get_or s (3 * i) 0 = get_or-drop (3 * i) s 0 0 ∙ ap (λ (k : ℕ). get_or s k 0) (omega arith) in
      let on : 3 * i + 3 ≡ 3 * (i + 1) = omega arith in
      whole t (drop (3 * i) s) (omega (arith, length-drop (3 * i) s)) ∙ rw (here, drop-drop 3 (3 * i) s, on)

  pub turn-ends : length s / 3 ≤ i → counted_all t (drop (3 * i) s) ≡ t
  turn-ends h = short t (drop (3 * i) s) (omega (arith, length-drop (3 * i) s))
