-- The pigeonhole of walks: a function that stays in a finite list goes round. After as many steps as the list is long nothing new is met.
-- Assumes nothing.
use Prim.Native.Nat.{ℕ, zero, suc, ◌+◌, ◌-◌, ◌≤◌, ◌<◌}
use native.Mathlib.Decide.{dec_lt}
use native.Mathlib.Omega.{arith}
use mathlib.Core.Path.{◌≡◌, refl, sym, ap, ◌∙◌, subst}
use mathlib.Core.Logic.{◌⊎◌, inl, inr}
use mathlib.Core.List.Memᴰ
use mathlib.Core.List.{List, [], ◌∷◌}
use lib.ListN.{length}
use Rattle.model.specs.Lists.{◌∈◌, Distinct}
use Rattle.model.proofs.ListLaws.{pigeonhole}

module _ {X : Type 0} (f : X → X) where
  -- n steps of f
  unfoldable pub iterate : ℕ → X → X
  iterate zero a = a
  iterate (suc n) a = iterate n (f a)

  pub iterate-add : (k b n : ℕ) (a : X) → n ≡ k + b → iterate n a ≡ iterate k (iterate b a)
  unfolding iterate
  iterate-add k zero n a e = let g : n ≡ k = omega arith in ap (λ (m : ℕ). iterate m a) g
  iterate-add k (suc b) n a e =
      let g : n ≡ suc (k + b) = omega arith in
      ap (λ (m : ℕ). iterate m a) g ∙ iterate-add k b (k + b) (f a) refl

  pub iterate-next : (k : ℕ) (a : X) → iterate (suc k) a ≡ f (iterate k a)
  unfolding iterate
  iterate-next k a = iterate-add 1 k (suc k) a (omega arith)

  module _ (a : X) where
    -- the first n, the last one first
    visited : ℕ → List X
    visited zero = []
    visited (suc n) = iterate n a ∷ visited n

    visited-length : (n : ℕ) → length (visited n) ≡ n
    unfolding visited
    visited-length zero = refl
    visited-length (suc n) = ap suc (visited-length n)

    visited-at : (n : ℕ) {x : X} → x ∈ visited n → (m : ℕ) × (m < n) × (x ≡ iterate m a)
    unfolding visited
    visited-at zero m = absurd (Memᴰ.not-nil m)
    visited-at (suc n) (Memᴰ.head e) = (n, omega arith, e)
    visited-at (suc n) (Memᴰ.tail m) = let r = visited-at n m in (r.0, omega arith, r.2)

    -- two of the first n are one
    record Repeat (n : ℕ) : Type 0 where
      i : ℕ
      j : ℕ
      before : i < j
      below : j < n
      same : iterate i a ≡ iterate j a

    module _ (eq : (x y : X) → Dec (x ≡ y)) where
      mem? : (x : X) (l : List X) → Dec (x ∈ l)
      mem? x [] = no Memᴰ.not-nil
      mem? x (y ∷ l) = go (eq x y) (mem? x l)
        where
          go : Dec (x ≡ y) → Dec (x ∈ l) → Dec (x ∈ y ∷ l)
          go (yes e) d = yes (Memᴰ.head e)
          go (no h) (yes m) = yes (Memᴰ.tail m)
          go (no h) (no k) = no (λ m. neither m)
            where
              neither : x ∈ y ∷ l → ⊥
              neither (Memᴰ.head e) = h e
              neither (Memᴰ.tail m) = k m

      repeat-or-distinct : (n : ℕ) → Repeat n ⊎ Distinct (visited n)
      unfolding visited
      repeat-or-distinct zero = inr tt
      repeat-or-distinct (suc n) = go (repeat-or-distinct n) (mem? (iterate n a) (visited n))
        where
          go : Repeat n ⊎ Distinct (visited n) → Dec (iterate n a ∈ visited n) → Repeat (suc n) ⊎ Distinct (iterate n a ∷ visited n)
          go (inl r) d = inl (record { i = r.i; j = r.j; before = r.before; below = omega (arith, r.below); same = r.same })
          go (inr d) (yes m) =
              let r = visited-at n m in
              inl (record { i = r.0; j = n; before = r.1; below = omega arith; same = sym r.2 })
          go (inr d) (no h) = inr (h, d)

      module _ (all : List X) (stays : (m : ℕ) → iterate m a ∈ all) where
        repeats : Repeat (suc (length all))
        repeats = go (repeat-or-distinct (suc (length all)))
          where
            inside : (n : ℕ) (x : X) → x ∈ visited n → x ∈ all
            inside n x m = let r = visited-at n m in rw r.2 (stays r.0)

            go : Repeat (suc (length all)) ⊎ Distinct (visited (suc (length all))) → Repeat (suc (length all))
            go (inl r) = r
            go (inr d) =
                absurd
                (omega (arith, pigeonhole (visited (suc (length all))) all d (inside (suc (length all))), visited-length (suc (length all))))

        folded : (fuel m : ℕ) → m < fuel → (k : ℕ) × (k ≤ length all) × (iterate m a ≡ iterate k a)
        folded zero m h = absurd (omega arith)
        folded (suc fuel) m h = go (dec_lt (length all) m) (λ k l. folded fuel k l)
          where
            go : Dec (length all < m) → ((k : ℕ) → k < fuel → (l : ℕ) × (l ≤ length all) × (iterate k a ≡ iterate l a))
                → (k : ℕ) × (k ≤ length all) × (iterate m a ≡ iterate k a)
            go (no l) later = (m, omega arith, refl)
            go (yes l) later =
                let r = repeats in
                let back : ℕ = m - r.j + r.i in
                let less : back < fuel = omega (arith, r.before, r.below) in
                let rest = later back less in
                let e : iterate m a ≡ iterate (m - r.j) (iterate r.j a) = iterate-add (m - r.j) r.j m a (omega (arith, r.below)) in
                let g : iterate back a ≡ iterate (m - r.j) (iterate r.i a) = iterate-add (m - r.j) r.i back a refl in
                (rest.0, rest.1, e ∙ ap (iterate (m - r.j)) (sym r.same) ∙ sym g ∙ rest.2)

        -- what no one of the first steps meets is never met
        pub never : (P : X → Type 0) → ((k : ℕ) → k ≤ length all → P (iterate k a) → ⊥) → (m : ℕ) → P (iterate m a) → ⊥
        never P none m h =
            let r = folded (suc m) m (omega arith) in
            none r.0 r.1 (subst P r.2 h)

    -- all of them are in a list that f does not leave
    pub stays-in : (all : List X) → ((x : X) → x ∈ all → f x ∈ all) → (m : ℕ) {b : X} → b ∈ all → iterate m b ∈ all
    unfolding iterate
    stays-in all closed zero h = h
    stays-in all closed (suc m) h = stays-in all closed m (closed _ h)
