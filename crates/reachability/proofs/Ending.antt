-- The search from its start to its end: every configuration that is reached is found, and no other.
-- Assumes nothing.
use Prim.Native.Nat.{ℕ, ◌+◌, ◌<◌}
use native.Mathlib.Decide.{ℕ_discrete}
use native.Mathlib.Omega.{arith}
use mathlib.Core.Path.{◌≡◌, refl, sym, ap, ◌∙◌, subst}
use mathlib.Core.Logic.{⊎_elim}
use mathlib.Core.Bool.{true}
use mathlib.Core.List.{List}
use lib.Bits.{bit_and}
use lib.ListN.{length, get_or, set}
use Rattle.relation.specs.Bit.{bit}
use Rattle.relation.proofs.BitLaws.{bit-zero, some-bit, and-has}
use Rattle.algorithms.specs.Automaton.{In}
use Rattle.transitions.specs.Compiled.{Next}
use Rattle.steps.specs.Leads.{leads_in}
use Rattle.reachability.specs.Reached.{Reached, starts, steps, Found}
use Rattle.reachability.specs.Searched.{Turned, Searched}
use Rattle.reachability.proofs.Words.{of-set, set_here}

-- the nodes below k have no fresh state, and the next has none
pub none_more : (F : List ℕ) (k : ℕ) → ((i : ℕ) → i < k → get_or F i 0 ≡ 0) → get_or F k 0 ≡ 0 → (i : ℕ) → i < k + 1 → get_or F i 0 ≡ 0
none_more F k h z i l = go (ℕ_discrete i k)
  where
    go : Dec (i ≡ k) → get_or F i 0 ≡ 0
    go (yes e) = ap (λ (j : ℕ). get_or F j 0) e ∙ z
    go (no n) = h i (omega arith)

no_member : (L : List ℕ) (i q : ℕ) → get_or L i 0 ≡ 0 → In (get_or L i 0) q → ⊥
no_member L i q e h = omega (arith, bit-zero q, subst (λ (x : ℕ). In x q) e h)

module _ (next : Next) (nodes P Q : List ℕ) (initial : ℕ) where
  within : {i q : ℕ} → 0 < length nodes → Reached next nodes P Q initial i q → i < length nodes
  within l (starts h) = l
  within l (steps r few k e) = k

  -- the root alone is reached, in the start states, and all are fresh
  pub searched-first : (R F : List ℕ) → 0 < length R → 0 < length F → ((i : ℕ) → get_or R i 0 ≡ 0) → ((i : ℕ) → get_or F i 0 ≡ 0)
      → Searched next nodes P Q initial (set R 0 initial) (set F 0 initial)
  searched-first R F l m none none' =
      record {
        sound = λ i q h. ⊎_elim (λ s. subst (λ (j : ℕ). Reached next nodes P Q initial j q) (sym s.0) (starts s.1)) (λ s. absurd (no_member R i q (none i) s.1)) (of-set R 0 initial l i q h);
        inside = λ i q h. ⊎_elim (λ s. set_here R 0 initial l i q s.0 s.1) (λ s. absurd (no_member F i q (none' i) s.1)) (of-set F 0 initial m i q h);
        closed = λ i p j q h n few k e. ⊎_elim (λ s. absurd (n (set_here F 0 initial m i p s.0 s.1))) (λ s. absurd (no_member R i p (none i) s.1)) (of-set R 0 initial l i p h);
        begun = λ q h. set_here R 0 initial l 0 q refl h;
      }

  pub searched-on : {v : ℕ} {R F R' F' : List ℕ} → Turned next nodes P Q v R F R' F' → Searched next nodes P Q initial R F
      → Searched next nodes P Q initial R' F'
  searched-on {v} {R} {F} {R'} {F'} t s =
      record {
        sound = λ j q h. ⊎_elim (λ g. s.sound j q g) (λ g. led j q g) (t.only j q h);
        inside = λ i q h. ⊎_elim (λ g. t.more i q (s.inside i q g)) (λ g. g) (t.inside i q h);
        closed = λ i p j q h n few k e. ⊎_elim (λ g. old i p j q g n few k e (ℕ_discrete (bit (get_or F i 0) p) 1) (ℕ_discrete i v)) (λ g. absurd (n g)) (t.new i p h);
        begun = λ q h. t.more 0 q (s.begun q h);
      }
    where
      led : (j q : ℕ) → (j < length nodes) × ((p : ℕ) × (p < 24) × In (get_or F v 0) p × (leads_in next nodes P Q v p j q ≡ true)) → Reached next nodes P Q initial j q
      led j q (l, (p, few, h, e)) = steps (s.sound v p (s.inside v p h)) few l e

      old : (i p j q : ℕ) → In (get_or R i 0) p → (In (get_or F' i 0) p → ⊥) → p < 24 → j < length nodes → leads_in next nodes P Q i p j q ≡ true
          → Dec (In (get_or F i 0) p) → Dec (i ≡ v) → In (get_or R' j 0) q
      old i p j q h n few k e (yes f) (yes g) =
          t.all p j q few (subst (λ (m : ℕ). In (get_or F m 0) p) g f) k (subst (λ (m : ℕ). leads_in next nodes P Q m p j q ≡ true) g e)
      old i p j q h n few k e (yes f) (no g) = absurd (n (t.kept i p g f))
      old i p j q h n few k e (no f) d = t.more j q (s.closed i p j q h f few k e)

  module _ {R F : List ℕ} (s : Searched next nodes P Q initial R F) (accepting : ℕ) where
    -- the root is reached in a final state
    pub found : (bit_and (get_or R 0 0) accepting ≡ 0 → ⊥) → Found next nodes P Q initial accepting
    found n =
        let b = some-bit (bit_and (get_or R 0 0) accepting) n in
        let both = (and-has (get_or R 0 0) accepting b.0).0 b.1 in
        (b.0, both.1, s.sound 0 b.0 both.0)

    -- where nothing is fresh, all that is reached is there ..
    complete : 0 < length nodes → ((i : ℕ) → i < length nodes → get_or F i 0 ≡ 0) → {i q : ℕ} → Reached next nodes P Q initial i q → In (get_or R i 0) q
    complete l none (starts {q = q} h) = s.begun q h
    complete l none (steps {i = i} {p = p} {j = j} {q = q} r few k e) =
        s.closed i p j q (complete l none r) (λ f. no_member F i p (none i (within l r)) f) few k e

    -- .. so it is not
    pub not_found : 0 < length nodes → ((i : ℕ) → i < length nodes → get_or F i 0 ≡ 0) → bit_and (get_or R 0 0) accepting ≡ 0
        → Found next nodes P Q initial accepting → ⊥
    not_found l none z (q, h, r) =
        omega (arith, bit-zero q, subst (λ (x : ℕ). In x q) z ((and-has (get_or R 0 0) accepting q).1 (complete l none r, h)))
