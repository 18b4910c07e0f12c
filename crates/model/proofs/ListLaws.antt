-- Laws of lists: elements at a place, distinct elements and the pigeonhole, ranges; and tests joined by "or". Assumes nothing.
use Prim.Native.Nat.{ℕ, zero, suc, ◌+◌, ◌≤◌, ◌<◌}
use mathlib.Core.Path.{◌≡◌, refl, sym, ap, ◌∙◌}
use mathlib.Core.Logic.{◌⊎◌, inl, inr}
use mathlib.Core.Bool.{Bool, true, false, ◌||◌}
use mathlib.Core.List.Memᴰ
use mathlib.Core.List.{List, [], ◌∷◌, ◌++◌, map, flat_map}
use native.Mathlib.Omega.{arith}
use native.Mathlib.Decide.{ℕ_discrete}
use lib.ListN.{length, get_or}
use lib.Dec.{T}
use Rattle.model.specs.Lists.{◌∈◌, Nth, here, there, Distinct, count_from}

module _ {A : Type 0} where
  pub nth-append : {l : List A} {i : ℕ} {a : A} (m : List A) → Nth l i a → Nth (l ++ m) i a
  nth-append m (here e) = here e
  nth-append m (there h) = there (nth-append m h)

  pub nth_seam : (l : List A) (a : A) (m : List A) → Nth (l ++ a ∷ m) (length l) a
  nth_seam [] a m = here refl
  nth_seam (x ∷ l) a m = there (nth_seam l a m)

  pub nth-lt : {l : List A} {i : ℕ} {a : A} → Nth l i a → i < length l
  nth-lt (here e) = omega arith
  nth-lt (there h) = let r = nth-lt h in omega arith

  pub nth-of-lt : (l : List A) (i : ℕ) → i < length l → (a : A) × Nth l i a
  nth-of-lt [] i h = absurd (omega arith)
  nth-of-lt (x ∷ l) zero h = (x, here refl)
  nth-of-lt (x ∷ l) (suc i) h = let r = nth-of-lt l i (omega arith) in (r.0, there r.1)

  pub nth-mem : {l : List A} {i : ℕ} {a : A} → Nth l i a → a ∈ l
  nth-mem (here e) = Memᴰ.head (sym e)
  nth-mem (there h) = Memᴰ.tail (nth-mem h)

  pub mem-nth : {a : A} {l : List A} → a ∈ l → (i : ℕ) × Nth l i a
  mem-nth (Memᴰ.head e) = (zero, here (sym e))
  mem-nth (Memᴰ.tail m) = let r = mem-nth m in (suc r.0, there r.1)

  pub nth-get_d : {l : List A} {i : ℕ} {a : A} (d : A) → Nth l i a → get_or l i d ≡ a
  nth-get_d d (here e) = e
  nth-get_d d (there h) = nth-get_d d h

  pub nth-unique : {l : List A} {i : ℕ} {a b : A} → Nth l i a → Nth l i b → a ≡ b
  nth-unique (here e) (here f) = sym e ∙ f
  nth-unique (there h) (there k) = nth-unique h k

  pub distinct_snoc : (l : List A) (a : A) → Distinct l → ¬ (a ∈ l) → Distinct (l ++ a ∷ [])
  distinct_snoc [] a d h = (Memᴰ.not-nil, tt)
  distinct_snoc (x ∷ l) a d h = (fresh, distinct_snoc l a d.1 (λ m. h (Memᴰ.tail m)))
    where
      fresh : ¬ (x ∈ l ++ a ∷ [])
      fresh m = apart (Memᴰ.append_cases l m)
        where
          apart : (x ∈ l) ⊎ (x ∈ a ∷ []) → ⊥
          apart (inl k) = d.0 k
          apart (inr (Memᴰ.head e)) = h (Memᴰ.head (sym e))
          apart (inr (Memᴰ.tail k)) = Memᴰ.not-nil k

  -- The list without the element at that place.
  without : {a : A} (l : List A) → a ∈ l → List A
  without [] m = elim m [ ]
  without (x ∷ l) (Memᴰ.head e) = l
  without (x ∷ l) (Memᴰ.tail m) = x ∷ without l m

  without-length : {a : A} {l : List A} (m : a ∈ l) → length l ≡ suc (length (without l m))
  unfolding without
  without-length (Memᴰ.head e) = refl
  without-length (Memᴰ.tail m) = ap suc (without-length m)

  without-mem : {a b : A} {l : List A} (m : a ∈ l) → b ∈ l → ¬ (a ≡ b) → b ∈ without l m
  unfolding without
  without-mem (Memᴰ.head e) (Memᴰ.head f) h = absurd (h (e ∙ sym f))
  without-mem (Memᴰ.head e) (Memᴰ.tail k) h = k
  without-mem (Memᴰ.tail m) (Memᴰ.head f) h = Memᴰ.head f
  without-mem (Memᴰ.tail m) (Memᴰ.tail k) h = Memᴰ.tail (without-mem m k h)

  -- Distinct elements that all stand in m are at most as many as m has.
  pub pigeonhole : (l m : List A) → Distinct l → ((a : A) → a ∈ l → a ∈ m) → length l ≤ length m
  pigeonhole [] m d h = omega arith
  pigeonhole (x ∷ l) m d h =
      let p : x ∈ m = h x (Memᴰ.head refl) in
      let r = pigeonhole l (without m p) d.1 (λ a k. without-mem p (h a (Memᴰ.tail k)) (λ e. d.0 (Memᴰ.cast e k))) in
      omega (arith, without-length p)

  pub nth-snoc : {l : List A} {i : ℕ} {a b : A} → Nth (l ++ b ∷ []) i a → Nth l i a ⊎ ((i ≡ length l) × (b ≡ a))
  nth-snoc {l = []} (here e) = inr (refl, e)
  nth-snoc {l = []} (there h) = elim h [ ]
  nth-snoc {l = x ∷ l} (here e) = inl (here e)
  nth-snoc {l = x ∷ l} (there h) = step (nth-snoc {l = l} h)
    where
      step : {i : ℕ} {a b : A} → Nth l i a ⊎ ((i ≡ length l) × (b ≡ a)) → Nth (x ∷ l) (suc i) a ⊎ ((suc i ≡ suc (length l)) × (b ≡ a))
      step (inl k) = inl (there k)
      step (inr e) = inr (ap suc e.0, e.1)

module _ {A B : Type 0} where
  pub nth-map : {l : List A} {i : ℕ} {a : A} (f : A → B) → Nth l i a → Nth (map f l) i (f a)
  nth-map f (here e) = here (ap f e)
  nth-map f (there h) = there (nth-map f h)

  pub nth-of-map : (l : List A) {i : ℕ} {b : B} (f : A → B) → Nth (map f l) i b → (a : A) × Nth l i a × (f a ≡ b)
  nth-of-map [] f h = elim h [ ]
  nth-of-map (x ∷ l) f (here e) = (x, here refl, e)
  nth-of-map (x ∷ l) f (there h) = let r = nth-of-map l f h in (r.0, there r.1, r.2)

  pub mem-flat_map : {a : A} {l : List A} {b : B} (f : A → List B) → a ∈ l → b ∈ f a → b ∈ flat_map f l
  unfolding flat_map
  mem-flat_map f (Memᴰ.head e) k = Memᴰ.append_left _ (rw e at k)
  mem-flat_map {l = x ∷ l} f (Memᴰ.tail m) k = Memᴰ.append_right (f x) (mem-flat_map f m k)

  pub of-flat_map : (l : List A) {b : B} (f : A → List B) → b ∈ flat_map f l → (a : A) × (a ∈ l) × (b ∈ f a)
  unfolding flat_map
  of-flat_map [] f m = absurd (Memᴰ.not-nil m)
  of-flat_map (x ∷ l) {b} f m = step (of-flat_map l f) (Memᴰ.append_cases (f x) m)
    where
      step : (b ∈ flat_map f l → (a : A) × (a ∈ l) × (b ∈ f a)) → (b ∈ f x) ⊎ (b ∈ flat_map f l) → (a : A) × (a ∈ x ∷ l) × (b ∈ f a)
      step below (inl k) = (x, Memᴰ.head refl, k)
      step below (inr k) = let r = below k in (r.0, Memᴰ.tail r.1, r.2)

pub mem-count_from : (s n i : ℕ) → s ≤ i → i < s + n → i ∈ count_from s n
unfolding count_from
mem-count_from s zero i h k = absurd (omega arith)
mem-count_from s (suc n) i h k = step (λ (l : s < i). mem-count_from (suc s) n i l (omega arith)) (ℕ_discrete i s)
  where
    step : (s < i → i ∈ count_from (suc s) n) → Dec (i ≡ s) → i ∈ s ∷ count_from (suc s) n
    step later (yes e) = Memᴰ.head e
    step later (no e) = Memᴰ.tail (later (omega arith))

pub of-count_from : (s n i : ℕ) → i ∈ count_from s n → i < s + n
unfolding count_from
of-count_from s zero i m = absurd (Memᴰ.not-nil m)
of-count_from s (suc n) i (Memᴰ.head e) = omega arith
of-count_from s (suc n) i (Memᴰ.tail m) = let r = of-count_from (suc s) n i m in omega arith

pub or_cases : (a b : Bool) → T (a || b) → T a ⊎ T b
or_cases true b h = inl tt
or_cases false b h = inr h

pub or_left : (a b : Bool) → T a → T (a || b)
or_left true b h = tt
or_left false b h = absurd h

pub or_right : (a b : Bool) → T b → T (a || b)
or_right true b h = tt
or_right false b h = h
