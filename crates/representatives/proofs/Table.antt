-- Laws of the table of rows: a row written, and what it leaves of the others; rows kept.
-- Assumes nothing.
use Prim.Native.Nat.{ℕ, zero, suc, ◌+◌, ◌*◌, ◌-◌, ◌%◌, ◌≤◌, ◌<◌}
use mathlib.Core.Path.{◌≡◌, refl, sym, ap, ap₂, ◌∙◌}
use mathlib.Core.Logic.{◌⊎◌, inl, inr}
use mathlib.Core.Bool.{Bool, true, false, ◌||◌, ◌&&◌}
use mathlib.Core.List.{List, [], ◌∷◌, ◌++◌}
use native.Mathlib.Nat.{add-zero}
use native.Mathlib.Decide.{ℕ_discrete, dec_lt}
use native.Mathlib.Omega.{arith}
use lib.ListN.{length, get_or, set, take, drop, length-append}
use Rattle.relation.specs.Rows.{same_rows}
use Rattle.model.specs.Lists.{Nth, here, there}
use Rattle.model.proofs.ListLaws.{nth-append, nth_seam, nth-lt, nth-of-lt, nth-unique}
use Rattle.model.specs.Saturation.{Algebra, Candidate, WitnessRow, witness_row, known, keep_if_new}
use Rattle.algorithms.specs.Automaton.{Automaton}
use Rattle.algorithms.specs.Saturate.{Parts, parts, same_parts, algebra_of}
use Rattle.overloops.specs.Tables.{PutFirst, Put}
use Rattle.overloops.proofs.Laws.{part_length, part-at, part-is, put-none, put-more}
use Rattle.representatives.specs.Stored.{byte_in, origin_in, class_in, Written, StoredAt, Count, Stored, KnownIn}

-- ---- 24 words of the table

same-part : (t t' : List ℕ) (at : ℕ) → at + 24 ≤ length t → length t' ≡ length t → ((p : ℕ) → p < 24 → get_or t' (at + p) 0 ≡ get_or t (at + p) 0)
    → take 24 (drop at t') ≡ take 24 (drop at t)
same-part t t' at room e f =
    part-is t' at (omega arith) (take 24 (drop at t)) (part_length t at room) (λ p l. f p l ∙ sym (part-at t at room p l))

same-origin : {s s' l l' r r' : ℕ} → s ≡ s' → l ≡ l' → r ≡ r' → witness_row s l r ≡ witness_row s' l' r'
same-origin e f g = rw (e, f, g)

-- ---- a row written

module _ (i s l r : ℕ) (x : Parts) (t t₁ t₂ t₃ : List ℕ) (few : i < 64) (room : length t ≡ 3264) (left_rows : length x.left ≡ 24)
    (right_rows : length x.right ≡ 24) (origin : PutFirst 3 (i * 51) (s ∷ l ∷ r ∷ []) t t₁) (left : Put (i * 51 + 3) x.left t₁ t₂)
    (right : Put (i * 51 + 27) x.right t₂ t₃) where
  size : length t₃ ≡ length t
  size = right.size ∙ left.size ∙ origin.size

  -- the words of the origin, and those of the left relation, stay when later ones are written
  first : (k : ℕ) → k < 3 → get_or t₃ (i * 51 + k) 0 ≡ get_or (s ∷ l ∷ r ∷ []) k 0
  first k h = right.outside (i * 51 + k) (inl (omega arith)) ∙ left.outside (i * 51 + k) (inl (omega arith)) ∙ origin.inside k h

  second : (p : ℕ) → p < 24 → get_or t₃ (i * 51 + 3 + p) 0 ≡ get_or x.left p 0
  second p h = right.outside (i * 51 + 3 + p) (inl (omega arith)) ∙ left.inside p h

  elsewhere : (m : ℕ) → (m < i * 51) ⊎ (i * 51 + 51 ≤ m) → get_or t₃ m 0 ≡ get_or t m 0
  elsewhere m (inl h) = right.outside m (inl (omega arith)) ∙ left.outside m (inl (omega arith)) ∙ origin.outside m (inl h)
  elsewhere m (inr h) = right.outside m (inr (omega arith)) ∙ left.outside m (inr (omega arith)) ∙ origin.outside m (inr (omega arith))

  apart : (j k : ℕ) → k < 51 → (j ≡ i → ⊥) → Dec (j < i) → (j * 51 + k < i * 51) ⊎ (i * 51 + 51 ≤ j * 51 + k)
  apart j k h n (yes b) = inl (omega arith)
  apart j k h n (no b) = inr (omega arith)

  other : (j k : ℕ) → k < 51 → (j ≡ i → ⊥) → get_or t₃ (j * 51 + k) 0 ≡ get_or t (j * 51 + k) 0
  other j k h n = elsewhere (j * 51 + k) (apart j k h n (dec_lt j i))

  other-part : (j k : ℕ) → j < 64 → k ≤ 27 → (j ≡ i → ⊥) → take 24 (drop (j * 51 + k) t₃) ≡ take 24 (drop (j * 51 + k) t)
  other-part j k few' h n =
      same-part t t₃ (j * 51 + k) (omega arith) size
      (λ p l. ap (λ (m : ℕ). get_or t₃ m 0) (omega arith) ∙ other j (k + p) (omega arith) n ∙ ap (λ (m : ℕ). get_or t m 0) (omega arith))

  byte : (k v : ℕ) → k < 3 → get_or (s ∷ l ∷ r ∷ []) k 0 ≡ v → v < 256 → byte_in t₃ i k ≡ v
  byte k v h e small = rw (first k h, e) (omega arith)

  other_byte : (j k : ℕ) → k < 3 → (j ≡ i → ⊥) → byte_in t₃ j k ≡ byte_in t j k
  other_byte j k h n = ap (λ (w : ℕ). w % 256) (other j k (omega arith) n)

  pub written : s < 256 → l < 256 → r < 256 → Written i (witness_row s l r) x t t₃
  written bs bl br =
      record {
        origin = same-origin (byte 0 s (omega arith) refl bs) (byte 1 l (omega arith) refl bl) (byte 2 r (omega arith) refl br);
        class = ap₂ parts (part-is t₃ (i * 51 + 3) (omega (arith, size)) x.left left_rows second) (part-is t₃ (i * 51 + 27) (omega (arith, size)) x.right right_rows right.inside);
        others_origin = λ j few' n. same-origin (other_byte j 0 (omega arith) n) (other_byte j 1 (omega arith) n) (other_byte j 2 (omega arith) n);
        others_class = λ j few' n. ap₂ parts (other-part j 3 few' (omega arith) n) (other-part j 27 few' (omega arith) n);
      }

-- how a tree is built, written word by word
pub put_three : (at s l r : ℕ) (t : List ℕ) → at + 3 ≤ length t → PutFirst 3 at (s ∷ l ∷ r ∷ []) t (set (set (set t at s) (at + 1) l) (at + 2) r)
put_three at s l r t room =
    put-more 2 at (s ∷ l ∷ r ∷ []) t (set (set t at s) (at + 1) l) (omega arith)
    (put-more 1 at (s ∷ l ∷ r ∷ []) t (set t at s) (omega arith) (rw (add-zero at) at (put-more 0 at (s ∷ l ∷ r ∷ []) t t (omega arith) (put-none at _ t))))

-- the words of a row's origin, the first one's place as the code has it
pub origin-read : (t : List ℕ) (i : ℕ) → witness_row (get_or t (i * 51) 0 % 256) (byte_in t i 1) (byte_in t i 2) ≡ origin_in t i
origin-read t i = same-origin (ap (λ (k : ℕ). get_or t k 0 % 256) (sym (add-zero (i * 51)))) refl refl

-- ---- a row known, and a row kept

-- one row more is not the one
pub known_more : (rows : List ℕ) (i : ℕ) (x : Parts) → KnownIn false rows i x → {b : Bool} → b ≡ same_parts x (class_in rows i) → b ≡ false
    → KnownIn false rows (i + 1) x
known_more rows i x h f e j l = by (ℕ_discrete j i)
  where
    by : Dec (j ≡ i) → same_parts x (class_in rows j) ≡ false
    by (yes s) = rw s (sym f ∙ e)
    by (no n) = h j (omega arith)

-- the right relations are compared where the left are the same; both parts of the table are 24 words
module _ (rows left right : List ℕ) (i : ℕ) where
  left-part : take (i * 51 + 27 - (i * 51 + 3)) (drop (i * 51 + 3) rows) ≡ (class_in rows i).left
  left-part = let e : i * 51 + 27 - (i * 51 + 3) ≡ 24 = omega arith in rw e

  right-part : take (i * 51 + 51 - (i * 51 + 27)) (drop (i * 51 + 27) rows) ≡ (class_in rows i).right
  right-part = let e : i * 51 + 51 - (i * 51 + 27) ≡ 24 = omega arith in rw e

  pub both-same : {a b : Bool} → a ≡ same_rows left (take (i * 51 + 27 - (i * 51 + 3)) (drop (i * 51 + 3) rows)) → a ≡ true
      → b ≡ same_rows right (take (i * 51 + 51 - (i * 51 + 27)) (drop (i * 51 + 27) rows)) → b ≡ same_parts (parts left right) (class_in rows i)
  both-same l t r =
      let e : same_rows left (class_in rows i).left ≡ true = sym (ap (same_rows left) left-part) ∙ sym l ∙ t in
      r ∙ ap (same_rows right) right-part ∙ sym (ap (λ (c : Bool). c && same_rows right (class_in rows i).right) e)

  pub left-differs : {a : Bool} → a ≡ same_rows left (take (i * 51 + 27 - (i * 51 + 3)) (drop (i * 51 + 3) rows)) → a ≡ false
      → false ≡ same_parts (parts left right) (class_in rows i)
  left-differs l f =
      let e : same_rows left (class_in rows i).left ≡ false = sym (ap (same_rows left) left-part) ∙ sym l ∙ f in
      sym (ap (λ (c : Bool). c && same_rows right (class_in rows i).right) e)

module _ (A : Automaton) where
  abbrev M : Algebra
  M = algebra_of A

  -- the class is known where it is that of a row
  known_at : (x : Parts) (kept : List (Candidate M)) (i : ℕ) (c : Candidate M) → Nth kept i c → same_parts x c.class ≡ true → known M x kept ≡ true
  unfolding known
  known_at x [] i c x3 t = elim x3 [ ]
  known_at x (r ∷ kept) zero c (here e) t = rw (e, t) refl
  known_at x (r ∷ kept) (suc i) c (there n) t = or-true (same_parts x r.class) (known M x kept) (known_at x kept i c n t)
    where
      or-true : (a b : Bool) → b ≡ true → (a || b) ≡ true
      or-true true b e = refl
      or-true false b e = e

  known-none : (x : Parts) (kept : List (Candidate M)) → ((i : ℕ) (c : Candidate M) → Nth kept i c → same_parts x c.class ≡ false) → known M x kept ≡ false
  unfolding known
  known-none x [] h = refl
  known-none x (r ∷ kept) h = rw (h 0 r (here refl), known-none x kept (λ i c n. h (suc i) c (there n))) refl

  module _ (rows : List ℕ) (n : ℕ) (kept : List (Candidate M)) (stored : Stored A rows n kept) (x : Parts) where
    full-count : n ≤ 64 → n ≡ length kept
    full-count l = by stored.count
      where
        by : Count n (length kept) → n ≡ length kept
        by (inl e) = e.0
        by (inr e) = absurd (omega (arith, e.0))

    -- what a search among the first n rows says
    search-known : n ≤ 64 → (b : Bool) → KnownIn b rows n x → known M x kept ≡ b
    search-known l true (i, h, t) =
        let r = nth-of-lt kept i (omega (arith, full-count l)) in
        known_at x kept i r.0 r.1 (rw (← (stored.each i r.0 (omega arith) r.1).class) t)
    search-known l false f =
        known-none x kept (λ i c m. rw (← (stored.each i c (omega (arith, nth-lt m, full-count l)) m).class) (f i (omega (arith, nth-lt m, full-count l))))

  -- the same, of a candidate
  pub searched : (rows : List ℕ) (n : ℕ) (kept : List (Candidate M)) (c : Candidate M) (x : Parts) {b t : Bool} → Stored A rows n kept → n ≤ 64 → x ≡ c.class
      → KnownIn b rows n x → b ≡ t → known M c.class kept ≡ t
  searched rows n kept c x {b} s l e k f = rw (← e) (search-known rows n kept s x l b k ∙ f)

  -- the first rows of a longer list
  nth-front : (l m : List (Candidate M)) (i : ℕ) (c : Candidate M) → i < length l → Nth (l ++ m) i c → Nth l i c
  nth-front l m i c h n = let r = nth-of-lt l i h in rw (nth-unique (nth-append m r.1) n) at r.1

  module _ (rows : List ℕ) (n : ℕ) (kept : List (Candidate M)) (c : Candidate M) (stored : Stored A rows n kept) where
    -- over 64 rows, whatever comes
    pub keep-full : 64 < n → (b : Bool) → Stored A rows 65 (keep_if_new M b kept c)
    unfolding keep_if_new
    keep-full l b = record { count = inr (refl, longer b); each = λ i d h m. stored.each i d h (front i d h b m) }
      where
        many : Count n (length kept) → 64 < length kept
        many (inl e) = absurd (omega (arith, e.0, e.1))
        many (inr e) = e.1

        longer : (b : Bool) → 64 < length (keep_if_new M b kept c)
        longer true = many stored.count
        longer false = omega (arith, many stored.count, length-append kept (c ∷ []))

        front : (i : ℕ) (d : Candidate M) → i < 64 → (b : Bool) → Nth (keep_if_new M b kept c) i d → Nth kept i d
        front i d h true m = m
        front i d h false m = nth-front kept (c ∷ []) i d (omega (arith, many stored.count)) m

    pub keep_known : known M c.class kept ≡ true → Stored A rows n (keep_if_new M (known M c.class kept) kept c)
    unfolding keep_if_new
    keep_known e = rw e stored

    counted : n ≤ 64 → Count (n + 1) (length (kept ++ c ∷ []))
    counted l = by stored.count (dec_lt n 64)
      where
        by : Count n (length kept) → Dec (n < 64) → Count (n + 1) (length (kept ++ c ∷ []))
        by (inl e) (yes h) = inl (omega (arith, e.0, length-append kept (c ∷ [])), omega (arith, e.0, length-append kept (c ∷ [])))
        by (inl e) (no h) = inr (omega (arith, e.0), omega (arith, e.0, length-append kept (c ∷ [])))
        by (inr e) d = absurd (omega (arith, e.0))

    -- a new row that is not stored, there being 64
    pub keep-over : n ≡ 64 → known M c.class kept ≡ false → Stored A rows 65 (keep_if_new M (known M c.class kept) kept c)
    unfolding keep_if_new
    keep-over l e =
        let next : n + 1 ≡ 65 = omega arith in
        rw e (record {
          count = rw next at (counted (omega arith));
          each = λ i d h m. stored.each i d h (nth-front kept (c ∷ []) i d (omega (arith, full-count rows n kept stored c.class (omega arith))) m);
        })

    -- a new row, stored
    pub keep-new : (rows' : List ℕ) → n < 64 → (o : WitnessRow) (x : Parts) → o ≡ c.row → x ≡ c.class → Written n o x rows rows' → known M c.class kept ≡ false
        → Stored A rows' (n + 1) (keep_if_new M (known M c.class kept) kept c)
    unfolding keep_if_new
    keep-new rows' l o x f g w e = rw e (record { count = counted (omega arith); each = λ i d h m. at_row i d h m (ℕ_discrete i n) })
      where
        full : n ≡ length kept
        full = full-count rows n kept stored c.class (omega arith)

        at_row : (i : ℕ) (d : Candidate M) → i < 64 → Nth (kept ++ c ∷ []) i d → Dec (i ≡ n) → StoredAt A rows' i d
        at_row i d h m (yes s) =
            let place : Nth (kept ++ c ∷ []) i c = rw (s ∙ full) (nth_seam kept c []) in
            let same : c ≡ d = nth-unique place m in
            rw (s, ← same) (record { origin = w.origin ∙ f; class = w.class ∙ g })
        at_row i d h m (no s) =
            let short : i < length kept = omega (arith, nth-lt m, full, length-append kept (c ∷ [])) in
            let old = stored.each i d h (nth-front kept (c ∷ []) i d short m) in
            record { origin = w.others_origin i h s ∙ old.origin; class = w.others_class i h s ∙ old.class }
