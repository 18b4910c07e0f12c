-- What a loop over a round's candidates needs: the round done so far, and the candidates that are left.
use Prim.Native.Nat.{ℕ, zero, suc, ◌+◌, ◌≤◌}
use mathlib.Core.Path.{◌≡◌, refl, sym, ap, ◌∙◌}
use mathlib.Core.Bool.{Bool, true, false}
use mathlib.Core.Option.{none, some}
use mathlib.Core.List.{List, [], ◌∷◌, ◌++◌, flat_map, append_assoc, append-nil}
use native.Mathlib.Omega.{arith}
use lib.ListN.{length, length-append}
use Rattle.model.specs.Lists.{Nth, count_from}
use Rattle.model.proofs.ListLaws.{nth-append}
use Rattle.model.specs.Saturation.{Algebra, Candidate, first_if, first_accepted, known, keep_if_new, absorb}

-- The numbers from s on, one more at the end.
pub count_from-snoc : (s n : ℕ) → count_from s (suc n) ≡ count_from s n ++ (s + n) ∷ []
unfolding count_from
count_from-snoc s zero = ap (λ (k : ℕ). k ∷ []) (omega arith)
count_from-snoc s (suc n) = ap (λ (l : List ℕ). s ∷ l) (count_from-snoc (suc s) n ∙ ap (λ (k : ℕ). count_from (suc s) n ++ k ∷ []) (omega arith))

module _ {A B : Type 0} where
  pub flat_map-append : (f : A → List B) (l m : List A) → flat_map f (l ++ m) ≡ flat_map f l ++ flat_map f m
  unfolding flat_map
  flat_map-append f [] m = refl
  flat_map-append f (x ∷ l) m = rw (flat_map-append f l m) (sym (append_assoc (f x) (flat_map f l) (flat_map f m)))

  pub flat_map-snoc : (f : A → List B) (l : List A) (a : A) → flat_map f (l ++ a ∷ []) ≡ flat_map f l ++ f a
  unfolding flat_map
  flat_map-snoc f l a = flat_map-append f l (a ∷ []) ∙ ap (λ (m : List B). flat_map f l ++ m) (append-nil (f a))

module _ (M : Algebra) where
  pub absorb-append : (kept cs ds : List (Candidate M)) → absorb M kept (cs ++ ds) ≡ absorb M (absorb M kept cs) ds
  unfolding absorb
  absorb-append kept [] ds = refl
  absorb-append kept (c ∷ cs) ds = absorb-append (keep_if_new M (known M c.class kept) kept c) cs ds

  -- The rows kept stay, each at its place.
  pub absorb-at : (kept cs : List (Candidate M)) {i : ℕ} {r : Candidate M} → Nth kept i r → Nth (absorb M kept cs) i r
  unfolding absorb keep_if_new
  absorb-at kept [] a = a
  absorb-at kept (c ∷ cs) {i} {r} a = absorb-at (keep_if_new M (known M c.class kept) kept c) cs (step (known M c.class kept))
    where
      step : (b : Bool) → Nth (keep_if_new M b kept c) i r
      step true = a
      step false = nth-append (c ∷ []) a

  pub absorb-longer : (kept cs : List (Candidate M)) → length kept ≤ length (absorb M kept cs)
  unfolding absorb keep_if_new
  absorb-longer kept [] = omega arith
  absorb-longer kept (c ∷ cs) = step (known M c.class kept) (λ b. absorb-longer (keep_if_new M b kept c) cs)
    where
      step : (b : Bool) → ((d : Bool) → length (keep_if_new M d kept c) ≤ length (absorb M (keep_if_new M d kept c) cs))
          → length kept ≤ length (absorb M (keep_if_new M b kept c) cs)
      step true h = h true
      step false h = omega (arith, h false, length-append kept (c ∷ []))

  -- The first accepted of two lists, one after the other.
  pub first-here : (cs ds : List (Candidate M)) (c : Candidate M) → first_accepted M cs ≡ some c → first_accepted M (cs ++ ds) ≡ some c
  unfolding first_accepted first_if
  first-here [] ds c e = cc
  first-here (d ∷ cs) ds c e = step d.accepted e (first-here cs ds c)
    where
      step : (b : Bool) → first_if M b d (first_accepted M cs) ≡ some c → (first_accepted M cs ≡ some c → first_accepted M (cs ++ ds) ≡ some c)
          → first_if M b d (first_accepted M (cs ++ ds)) ≡ some c
      step true e' h = e'
      step false e' h = h e'

  pub first-later : (cs ds : List (Candidate M)) → first_accepted M cs ≡ none → first_accepted M (cs ++ ds) ≡ first_accepted M ds
  unfolding first_accepted first_if
  first-later [] ds e = refl
  first-later (d ∷ cs) ds e = step d.accepted e (first-later cs ds)
    where
      step : (b : Bool) → first_if M b d (first_accepted M cs) ≡ none → (first_accepted M cs ≡ none → first_accepted M (cs ++ ds) ≡ first_accepted M ds)
          → first_if M b d (first_accepted M (cs ++ ds)) ≡ first_accepted M ds
      step true e' h = cc
      step false e' h = h e'
