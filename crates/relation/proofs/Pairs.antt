-- Which pairs each operation has; relations with the same pairs are equal. `Chain` says which pairs the closure has. Assumes nothing.
use mathlib.Core.Path.{◌≡◌, refl, sym, ap, ap₂, ◌∙◌, subst}
use mathlib.Core.Logic.{◌⊎◌, inl, inr, ⊎_elim, ◌↔◌}
use mathlib.Core.Bool.{Bool, true, false, not, ◌&&◌}
use mathlib.Core.List.{List, [], ◌∷◌, map}
use Prim.Native.Nat.{ℕ, zero, suc, ◌+◌, ◌^◌, ◌<◌}
use native.Mathlib.Nat.{suc-add, add-suc, add-zero, zero-add, suc_inj}
use native.Mathlib.Decide.{ℕ_discrete}
use native.Mathlib.Omega.{arith}
use borrow.Author.Tests.{eqb-true, eqb-false, eq-eqb, ne_eqb}
use lib.Bits.{bit_or, bit_and, or_zero_r}
use lib.Dec.{eqb}
use lib.ListN.{length, get_or, replicate, get_or-map}
use lib.Seq.{ext_get_or, get_or-set_same, get_or-set_other}
use Rattle.relation.specs.Bit.{bit}
use Rattle.relation.proofs.BitLaws.{bit-lt, bit-off, bit-zero, bit-pow, bit-pow-eq, bit-ext, some-bit, or-has, and-has}
use Rattle.relation.specs.Rows.{has, holding, no_pairs, added, joined, or_if, gathered, image_of, composed, absorbed, through, meeting}
use Rattle.relation.specs.Rows.{same_rows}

-- ---- relations with the same pairs are equal

same_bits : (x y : ℕ) → ((q : ℕ) → (bit x q ≡ 1) ↔ (bit y q ≡ 1)) → (q : ℕ) → bit x q ≡ bit y q
same_bits x y h q = go (ℕ_discrete (bit x q) 1)
  where
    go : Dec (bit x q ≡ 1) → bit x q ≡ bit y q
    go (yes e) = e ∙ sym ((h q).0 e)
    go (no n) = bit-off x q n ∙ sym (bit-off y q (λ e. n ((h q).1 e)))

-- Sets with the same members are equal.
pub same_set : (x y : ℕ) → ((q : ℕ) → (bit x q ≡ 1) ↔ (bit y q ≡ 1)) → x ≡ y
same_set x y h = bit-ext x y (same_bits x y h)

pub ext : (xs ys : List ℕ) → length xs ≡ length ys → ((p q : ℕ) → has xs p q ↔ has ys p q) → xs ≡ ys
ext xs ys e h = ext_get_or 0 xs ys e (λ p l. same_set (get_or xs p 0) (get_or ys p 0) (h p))

pub same-rows-eq : (xs ys : List ℕ) → (same_rows xs ys ≡ true) ↔ (xs ≡ ys)
same-rows-eq xs ys = (to xs ys, λ e. subst (λ (zs : List ℕ). same_rows xs zs ≡ true) e (self xs))
  where
    self : (xs : List ℕ) → same_rows xs xs ≡ true
    self [] = refl
    self (x ∷ xs) = ap₂ ◌&&◌ (eq-eqb x x refl) (self xs)

    to : (xs ys : List ℕ) → same_rows xs ys ≡ true → xs ≡ ys
    to [] [] h = refl
    to [] (y ∷ ys) h = cc
    to (x ∷ xs) [] h = cc
    to (x ∷ xs) (y ∷ ys) h = go (to xs ys) (eqb x y) refl h
      where
        go : (same_rows xs ys ≡ true → xs ≡ ys) → (t : Bool) → eqb x y ≡ t → (t && same_rows xs ys) ≡ true → ◌≡◌ {A = List ℕ} (x ∷ xs) (y ∷ ys)
        go ih true e h = ap₂ {C = List ℕ} ◌∷◌ (eqb-true x y e) (ih h)
        go ih false e h = cc

-- ---- the operations' pairs

pub holding-has : (rows : List ℕ) (p q : ℕ) → (holding rows p q ≡ true) ↔ has rows p q
holding-has rows p q = (eqb-true (bit (get_or rows p 0) q) 1, eq-eqb (bit (get_or rows p 0) q) 1)

pub zeros : (n p : ℕ) → get_or (replicate {A = ℕ} n 0) p 0 ≡ 0
zeros zero p = refl
zeros (suc n) zero = refl
zeros (suc n) (suc p) = zeros n p

pub has-none : (p q : ℕ) → has no_pairs p q → ⊥
has-none p q h = omega (arith, ap (λ (x : ℕ). bit x q) (zeros 24 p) ∙ bit-zero q, h)

pub has-added : (rows : List ℕ) (p q : ℕ) → p < length rows → (a b : ℕ) → has (added rows p q) a b ↔ (has rows a b ⊎ ((a ≡ p) × (b ≡ q)))
has-added rows p q l a b = go (ℕ_discrete a p)
  where
    go : Dec (a ≡ p) → has (added rows p q) a b ↔ (has rows a b ⊎ ((a ≡ p) × (b ≡ q)))
    go (yes e) = (to, from)
      where
        here : get_or (added rows p q) a 0 ≡ bit_or (get_or rows p 0) (2 ^ q)
        here = ap (λ (i : ℕ). get_or (added rows p q) i 0) e ∙ get_or-set_same rows p (bit_or (get_or rows p 0) (2 ^ q)) 0 l

        to : has (added rows p q) a b → has rows a b ⊎ ((a ≡ p) × (b ≡ q))
        to h =
            ⊎_elim (λ g. inl (subst (λ (i : ℕ). has rows i b) (sym e) g)) (λ g. inr (e, sym (bit-pow-eq q b g)))
            ((or-has (get_or rows p 0) (2 ^ q) b).0 (subst (λ (x : ℕ). bit x b ≡ 1) here h))

        from : has rows a b ⊎ ((a ≡ p) × (b ≡ q)) → has (added rows p q) a b
        from d =
            subst (λ (x : ℕ). bit x b ≡ 1) (sym here)
            ((or-has (get_or rows p 0) (2 ^ q) b).1
            (⊎_elim (λ g. inl (subst (λ (i : ℕ). has rows i b) e g)) (λ g. inr (subst (λ (i : ℕ). bit (2 ^ q) i ≡ 1) (sym g.1) (bit-pow q))) d))
    go (no n) =
        let there : get_or (added rows p q) a 0 ≡ get_or rows a 0 = get_or-set_other rows p a (bit_or (get_or rows p 0) (2 ^ q)) 0 n in
        (λ h. inl (subst (λ (x : ℕ). bit x b ≡ 1) there h), ⊎_elim (λ g. subst (λ (x : ℕ). bit x b ≡ 1) (sym there) g) (λ g. absurd (n g.0)))

pub length-joined : (xs ys : List ℕ) → length xs ≡ length ys → length (joined xs ys) ≡ length xs
length-joined [] ys e = sym e
length-joined (x ∷ xs) [] e = refl
length-joined (x ∷ xs) (y ∷ ys) e = ap suc (length-joined xs ys (suc_inj e))

pub row-joined : (xs ys : List ℕ) (p : ℕ) → get_or (joined xs ys) p 0 ≡ bit_or (get_or xs p 0) (get_or ys p 0)
row-joined [] ys p = refl
row-joined (x ∷ xs) [] p = sym (or_zero_r (get_or (x ∷ xs) p 0))
row-joined (x ∷ xs) (y ∷ ys) zero = refl
row-joined (x ∷ xs) (y ∷ ys) (suc p) = row-joined xs ys p

pub has-joined : (xs ys : List ℕ) (p q : ℕ) → has (joined xs ys) p q ↔ (has xs p q ⊎ has ys p q)
has-joined xs ys p q = subst (λ (x : ℕ). (bit x q ≡ 1) ↔ (has xs p q ⊎ has ys p q)) (sym (row-joined xs ys p)) (or-has (get_or xs p 0) (get_or ys p 0) q)

pub or_if-has : (t a b q : ℕ) → t < 2 → (bit (or_if t a b) q ≡ 1) ↔ ((bit a q ≡ 1) ⊎ ((t ≡ 1) × (bit b q ≡ 1)))
or_if-has zero a b q l = (inl, ⊎_elim (λ h. h) (λ h. absurd (omega (arith, h.0))))
or_if-has (suc t) a b q l =
    (λ h. ⊎_elim inl (λ g. inr (omega arith, g)) ((or-has a b q).0 h), λ h. (or-has a b q).1 (⊎_elim inl (λ g. inr g.1) h))

-- A row that the bits of `from` choose has bit q; the first row of the list is row `at`.
abbrev Chosen : ℕ → ℕ → List ℕ → ℕ → Type 0
Chosen from at rows q = (j : ℕ) × (bit from (at + j) ≡ 1) × has rows j q

gathered-to : (acc from at : ℕ) (rows : List ℕ) (q : ℕ) → bit (gathered acc from at rows) q ≡ 1 → (bit acc q ≡ 1) ⊎ Chosen from at rows q
gathered-to acc from at [] q h = inl h
gathered-to acc from at (row ∷ rows) q h = go (gathered-to (or_if (bit from at) acc row) from (suc at) rows q h)
  where
    go : (bit (or_if (bit from at) acc row) q ≡ 1) ⊎ Chosen from (suc at) rows q → (bit acc q ≡ 1) ⊎ Chosen from at (row ∷ rows) q
    go (inl e) =
        ⊎_elim inl (λ g. inr (0, subst (λ (k : ℕ). bit from k ≡ 1) (sym (add-zero at)) g.0, g.1))
        ((or_if-has (bit from at) acc row q (bit-lt from at)).0 e)
    go (inr c) = inr (suc c.0, subst (λ (k : ℕ). bit from k ≡ 1) (suc-add at c.0 ∙ sym (add-suc at c.0)) c.1, c.2)

gathered-from : (acc from at : ℕ) (rows : List ℕ) (q : ℕ) → (bit acc q ≡ 1) ⊎ Chosen from at rows q → bit (gathered acc from at rows) q ≡ 1
gathered-from acc from at [] q (inl h) = h
gathered-from acc from at [] q (inr c) = absurd (omega (arith, bit-zero q, c.2))
gathered-from acc from at (row ∷ rows) q d = gathered-from (or_if (bit from at) acc row) from (suc at) rows q (go d)
  where
    first : (bit acc q ≡ 1) ⊎ ((bit from at ≡ 1) × (bit row q ≡ 1)) → bit (or_if (bit from at) acc row) q ≡ 1
    first = (or_if-has (bit from at) acc row q (bit-lt from at)).1

    later : (j : ℕ) → bit from (at + j) ≡ 1 → has (row ∷ rows) j q → (bit (or_if (bit from at) acc row) q ≡ 1) ⊎ Chosen from (suc at) rows q
    later zero b h = inl (first (inr (subst (λ (k : ℕ). bit from k ≡ 1) (add-zero at) b, h)))
    later (suc j) b h = inr (j, subst (λ (k : ℕ). bit from k ≡ 1) (add-suc at j ∙ sym (suc-add at j)) b, h)

    go : (bit acc q ≡ 1) ⊎ Chosen from at (row ∷ rows) q → (bit (or_if (bit from at) acc row) q ≡ 1) ⊎ Chosen from (suc at) rows q
    go (inl h) = inl (first (inl h))
    go (inr c) = later c.0 c.1 c.2

-- The image of a set has the states that a pair leads to from the set.
pub has-image : (rows : List ℕ) (from q : ℕ) → (bit (image_of rows from) q ≡ 1) ↔ ((p : ℕ) × (bit from p ≡ 1) × has rows p q)
has-image rows from q = (to, of)
  where
    to : bit (image_of rows from) q ≡ 1 → (p : ℕ) × (bit from p ≡ 1) × has rows p q
    to h =
        ⊎_elim (λ g. absurd (omega (arith, bit-zero q, g))) (λ c. (c.0, subst (λ (k : ℕ). bit from k ≡ 1) (zero-add c.0) c.1, c.2))
        (gathered-to 0 from 0 rows q h)

    of : (p : ℕ) × (bit from p ≡ 1) × has rows p q → bit (image_of rows from) q ≡ 1
    of c = gathered-from 0 from 0 rows q (inr (c.0, subst (λ (k : ℕ). bit from k ≡ 1) (sym (zero-add c.0)) c.1, c.2))

-- Row p of the rows that f makes, where f keeps the empty row.
row-map : (f : ℕ → ℕ) → f 0 ≡ 0 → (rows : List ℕ) (p : ℕ) → get_or (map f rows) p 0 ≡ f (get_or rows p 0)
row-map f e rows p = ap (get_or (map f rows) p) (sym e) ∙ get_or-map f rows p 0

pub image-zero : (rows : List ℕ) → image_of rows 0 ≡ 0
image-zero rows = bit-ext (image_of rows 0) 0 (λ q. bit-off (image_of rows 0) q (none q) ∙ sym (bit-zero q))
  where
    none : (q : ℕ) → bit (image_of rows 0) q ≡ 1 → ⊥
    none q h = let c = (has-image rows 0 q).0 h in omega (arith, bit-zero c.0, c.1)

pub row-composed : (xs ys : List ℕ) (p : ℕ) → get_or (composed xs ys) p 0 ≡ image_of ys (get_or xs p 0)
row-composed xs ys p = row-map (image_of ys) (image-zero ys) xs p

-- A pair of the composition is a pair of the first, then a pair of the second.
pub has-composed : (xs ys : List ℕ) (p r : ℕ) → has (composed xs ys) p r ↔ ((q : ℕ) × has xs p q × has ys q r)
has-composed xs ys p r =
    subst (λ (x : ℕ). (bit x r ≡ 1) ↔ ((q : ℕ) × has xs p q × has ys q r)) (sym (row-composed xs ys p)) (has-image ys (get_or xs p 0) r)

pub row-absorbed : (k row : ℕ) (rows : List ℕ) (p : ℕ) → get_or (absorbed k row rows) p 0 ≡ or_if (bit (get_or rows p 0) k) (get_or rows p 0) row
row-absorbed k row rows p = row-map (λ (x : ℕ). or_if (bit x k) x row) (ap (λ (t : ℕ). or_if t 0 row) (bit-zero k)) rows p

-- A pair that there was, or a pair into k and a pair out of k.
pub has-through : (k : ℕ) (R : List ℕ) (p q : ℕ) → has (through k R) p q ↔ (has R p q ⊎ (has R p k × has R k q))
has-through k R p q =
    subst (λ (x : ℕ). (bit x q ≡ 1) ↔ (has R p q ⊎ (has R p k × has R k q))) (sym (row-absorbed k (get_or R k 0) R p))
    (or_if-has (bit (get_or R p 0) k) (get_or R p 0) (get_or R k 0) q (bit-lt (get_or R p 0) k))

-- Sets meet where a pair leads from the one into the other.
pub meeting-has : (rows : List ℕ) (from to : ℕ)
    → (meeting rows from to ≡ true) ↔ ((p : ℕ) × (q : ℕ) × (bit from p ≡ 1) × (bit to q ≡ 1) × has rows p q)
meeting-has rows from to = (go (eqb (bit_and image to) 0) refl, of)
  where
    image : ℕ
    image = image_of rows from

    go : (t : Bool) → eqb (bit_and image to) 0 ≡ t → not t ≡ true → (p : ℕ) × (q : ℕ) × (bit from p ≡ 1) × (bit to q ≡ 1) × has rows p q
    go true e h = let z : ◌≡◌ {A = ℕ} 0 1 = cc in absurd (omega arith)
    go false e h =
        let b = some-bit (bit_and image to) (eqb-false (bit_and image to) 0 e) in
        let both = (and-has image to b.0).0 b.1 in
        let c = (has-image rows from b.0).0 both.0 in
        (c.0, b.0, c.1, both.1, c.2)

    of : (p : ℕ) × (q : ℕ) × (bit from p ≡ 1) × (bit to q ≡ 1) × has rows p q → meeting rows from to ≡ true
    of c =
        let here : bit (bit_and image to) c.1 ≡ 1 = (and-has image to c.1).1 ((has-image rows from c.1).1 (c.0, c.2, c.4), c.3) in
        ap not (ne_eqb (bit_and image to) 0 (λ z. omega (arith, here, ap (λ (x : ℕ). bit x c.1) z, bit-zero c.1)))
