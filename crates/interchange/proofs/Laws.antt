-- Laws of interchangeable classes, and of the tables by which they are found.
-- Assumes nothing.
use Prim.Native.Nat.{ℕ, suc, ◌+◌, ◌*◌, ◌≤◌, ◌<◌}
use mathlib.Core.Path.{◌≡◌, refl, sym, ap, ap₂, ◌∙◌}
use mathlib.Core.Logic.{⊎_elim}
use mathlib.Core.List.{List, [], ◌∷◌}
use native.Mathlib.Decide.{ℕ_discrete, dec_lt}
use native.Mathlib.Omega.{arith}
use lib.Bits.{bit_or, bit_and}
use lib.ListN.{length, get_or, set, take, drop, length-set, get_or-eq_default}
use lib.Seq.{get_or-set_same, get_or-set_other}
use Rattle.relation.specs.Bit.{bit}
use Rattle.relation.specs.Rows.{has, image_of, composed}
use Rattle.relation.proofs.BitLaws.{bit-lt, bit-zero, bit-or, bit-and, or-has}
use Rattle.relation.proofs.Pairs.{same_set, has-image}
use Rattle.relation.proofs.Members.{row_inside}
use Rattle.model.specs.declared.Side.{Side}
use Rattle.model.specs.declared.Place.{Place}
use Rattle.model.specs.declared.Move.{Move}
use Rattle.algorithms.specs.Automaton.{Automaton}
use Rattle.algorithms.specs.Overloops.{moves, node_loops, node_overloops}
use Rattle.algorithms.specs.Saturate.{Parts, algebra_of}
use Rattle.overloops.specs.Tables.{side_number}
use Rattle.overloops.proofs.Laws.{part_length, part-at, side-small}
use Rattle.representatives.specs.Stored.{class_in}
use Rattle.interchange.specs.Interchange.{part_on, Interchangeable, Doubled, LeadsInto, word_place, Words, Enters, SameOutside}

-- ---- relations that agree where they are entered

-- the image of a set by two relations whose rows are the same at its states
image-same : (xs ys : List ℕ) (from : ℕ) → ((p : ℕ) → bit from p ≡ 1 → get_or xs p 0 ≡ get_or ys p 0) → image_of xs from ≡ image_of ys from
image-same xs ys from h = same_set (image_of xs from) (image_of ys from) (λ q. (to q, of q))
  where
    to : (q : ℕ) → bit (image_of xs from) q ≡ 1 → bit (image_of ys from) q ≡ 1
    to q g =
        let c = (has-image xs from q).0 g in
        (has-image ys from q).1 (c.0, c.1, sym (ap (λ (x : ℕ). bit x q) (h c.0 c.1)) ∙ c.2)

    of : (q : ℕ) → bit (image_of ys from) q ≡ 1 → bit (image_of xs from) q ≡ 1
    of q g =
        let c = (has-image ys from q).0 g in
        (has-image xs from q).1 (c.0, c.1, ap (λ (x : ℕ). bit x q) (h c.0 c.1) ∙ c.2)

composed-same : (steps xs ys : List ℕ) → ((p q : ℕ) → has steps p q → get_or xs q 0 ≡ get_or ys q 0) → composed steps xs ≡ composed steps ys
composed-same [] xs ys h = refl
composed-same (row ∷ steps) xs ys h =
    ap₂ (λ (x : ℕ) (l : List ℕ). x ∷ l) (image-same xs ys row (λ q b. h 0 q b)) (composed-same steps xs ys (λ p q b. h (suc p) q b))

-- steps that lead into a set which avoids the states of difference
avoiding-same : (steps xs ys : List ℕ) (into differ : ℕ) → LeadsInto steps into → SameOutside differ xs ys → bit_and into differ ≡ 0
    → composed steps xs ≡ composed steps ys
avoiding-same steps xs ys into differ leads same none = composed-same steps xs ys (λ p q b. same q (outside q (leads p q b)))
  where
    outside : (q : ℕ) → bit into q ≡ 1 → bit differ q ≡ 0
    outside q b = omega (arith, bit-and into differ q, ap (λ (x : ℕ). bit x q) none, bit-zero q, bit-lt differ q)

-- ---- nodes over interchangeable parts

loops-same : (A : Automaton) (σ : ℕ) (τ : Place) (l l' r r' : List ℕ) → composed (moves A σ τ (Move.Down Side.Left)) l ≡ composed (moves A σ τ (Move.Down Side.Left)) l'
    → composed (moves A σ τ (Move.Down Side.Right)) r ≡ composed (moves A σ τ (Move.Down Side.Right)) r' → node_loops A τ σ l r ≡ node_loops A τ σ l' r'
unfolding node_loops
loops-same A σ τ l l' r r' e f = rw (e, f)

-- a node over them is of the same class, and is accepted or not as well
pub node-same : (A : Automaton) (σ : ℕ) (x x' y y' : Parts) → Interchangeable A σ Side.Left x x' → Interchangeable A σ Side.Right y y'
    → ((algebra_of A).node_class σ x y ≡ (algebra_of A).node_class σ x' y') × ((algebra_of A).node_accepted σ x y ≡ (algebra_of A).node_accepted σ x' y')
unfolding node_overloops
node-same A σ x x' y y' h g =
    let same : (τ : Place) → node_loops A τ σ x.left y.right ≡ node_loops A τ σ x'.left y'.right = λ τ. loops-same A σ τ _ _ _ _ (h τ) (g τ) in
    (rw (same (Place.Child Side.Left), same (Place.Child Side.Right)), rw (same Place.Root))

-- ---- the states entered

-- what holds at each of the three places
pub each-place : (P : Place → Type 0) → P Place.Root → P (Place.Child Side.Left) → P (Place.Child Side.Right) → (τ : Place) → P τ
each-place P a b c Place.Root = a
each-place P a b c (Place.Child Side.Left) = b
each-place P a b c (Place.Child Side.Right) = c

-- the pairs of the first p rows from a place on lead into a set
abbrev pub LeadUpto : (t : List ℕ) (at p set : ℕ) → Type 0
LeadUpto t at p set = (k q : ℕ) → k < p → bit (get_or t (at + k) 0) q ≡ 1 → bit set q ≡ 1

or_left : (a b q : ℕ) → bit a q ≡ 1 → bit (bit_or a b) q ≡ 1
or_left a b q h = omega (arith, bit-or a b q, bit-lt b q)

or_right : (a b q : ℕ) → bit b q ≡ 1 → bit (bit_or a b) q ≡ 1
or_right a b q h = omega (arith, bit-or a b q, bit-lt a q)

pub lead-more : (t : List ℕ) (at p set : ℕ) → LeadUpto t at p set → LeadUpto t at (p + 1) (bit_or set (get_or t (at + p) 0))
lead-more t at p set h k q l b = by (ℕ_discrete k p)
  where
    by : Dec (k ≡ p) → bit (bit_or set (get_or t (at + p) 0)) q ≡ 1
    by (yes e) = or_right set (get_or t (at + p) 0) q (ap (λ (i : ℕ). bit (get_or t (at + i) 0) q) (sym e) ∙ b)
    by (no n) = or_left set (get_or t (at + p) 0) q (h k q (omega arith) b)

pub lead-done : (t : List ℕ) (at p set : ℕ) → at + 24 ≤ length t → p ≡ 24 → LeadUpto t at p set → LeadsInto (take 24 (drop at t)) set
lead-done t at p set room e h k q b =
    let l : k < 24 = omega (arith, row_inside (take 24 (drop at t)) k q b, part_length t at room) in
    h k q (omega arith) (ap (λ (x : ℕ). bit x q) (sym (part-at t at room k l)) ∙ b)

pub leads_any : (a b c : ℕ) (steps : Place → List ℕ) → LeadsInto (steps Place.Root) a → LeadsInto (steps (Place.Child Side.Left)) b
    → LeadsInto (steps (Place.Child Side.Right)) c → (τ : Place) → LeadsInto (steps τ) (bit_or (bit_or a b) c)
leads_any a b c steps h g k =
    each-place (λ τ. LeadsInto (steps τ) (bit_or (bit_or a b) c)) (λ p q m. or_left (bit_or a b) c q (or_left a b q (h p q m)))
    (λ p q m. or_left (bit_or a b) c q (or_right a b q (g p q m))) (λ p q m. or_right (bit_or a b) c q (k p q m))

-- ---- a table of two words a number, one number more

pub words-none : (P : ℕ → Side → ℕ → Type 0) (t : List ℕ) → Words P 0 t
words-none P t i s l = absurd (omega arith)

pub words_more : (P : ℕ → Side → ℕ → Type 0) (n : ℕ) (t : List ℕ) (l r : ℕ) → n * 2 + 1 < length t → Words P n t → P n Side.Left l → P n Side.Right r
    → Words P (n + 1) (set (set t (n * 2) l) (n * 2 + 1) r)
words_more P n t l r room h hl hr i s lt = by (ℕ_discrete i n)
  where
    t' : List ℕ
    t' = set (set t (n * 2) l) (n * 2 + 1) r

    here : (s : Side) → P n s (get_or t' (word_place n s) 0)
    here Side.Left =
        let e : get_or t' (word_place n Side.Left) 0 ≡ l =
        ap (λ (k : ℕ). get_or t' k 0) (omega arith) ∙ get_or-set_other (set t (n * 2) l) (n * 2 + 1) (n * 2) r 0 (λ q. omega arith) ∙ get_or-set_same t (n * 2) l 0 (omega arith) in
        rw e hl
    here Side.Right =
        let e : get_or t' (word_place n Side.Right) 0 ≡ r = get_or-set_same (set t (n * 2) l) (n * 2 + 1) r 0 (omega (arith, length-set t (n * 2) l)) in
        rw e hr

    by : Dec (i ≡ n) → P i s (get_or t' (word_place i s) 0)
    by (yes e) = rw e (here s)
    by (no d) =
        let e : get_or t' (word_place i s) 0 ≡ get_or t (word_place i s) 0 =
        get_or-set_other (set t (n * 2) l) (n * 2 + 1) (word_place i s) r 0 (λ q. omega (arith, side-small s))
        ∙ get_or-set_other t (n * 2) (word_place i s) l 0 (λ q. omega (arith, side-small s)) in
        rw e (h i s (omega arith))

-- ---- the states in which two relations differ

-- the first p rows from two places on are the same but at the states of a set
abbrev pub SameUpto : (t : List ℕ) (x y p set : ℕ) → Type 0
SameUpto t x y p set = (k : ℕ) → k < p → bit set k ≡ 0 → get_or t (x + k) 0 ≡ get_or t (y + k) 0

pub same_more : (t : List ℕ) (x y p set u : ℕ) → SameUpto t x y p set → (bit u p ≡ 0 → get_or t (x + p) 0 ≡ get_or t (y + p) 0)
    → SameUpto t x y (p + 1) (bit_or set u)
same_more t x y p set u h g k l b = by (ℕ_discrete k p)
  where
    by : Dec (k ≡ p) → get_or t (x + k) 0 ≡ get_or t (y + k) 0
    by (yes e) = let z : bit u k ≡ 0 = omega (arith, bit-or set u k) in rw e (g (rw e at z))
    by (no n) = h k (omega arith) (omega (arith, bit-or set u k))

pub same-done : (t : List ℕ) (x y p set : ℕ) → x + 24 ≤ length t → y + 24 ≤ length t → p ≡ 24 → SameUpto t x y p set
    → SameOutside set (take 24 (drop x t)) (take 24 (drop y t))
same-done t x y p set rx ry e h k b = by (dec_lt k 24)
  where
    by : Dec (k < 24) → get_or (take 24 (drop x t)) k 0 ≡ get_or (take 24 (drop y t)) k 0
    by (yes l) = part-at t x rx k l ∙ h k (omega arith) b ∙ sym (part-at t y ry k l)
    by (no n) =
        get_or-eq_default (take 24 (drop x t)) 0 (omega (arith, part_length t x rx))
        ∙ sym (get_or-eq_default (take 24 (drop y t)) 0 (omega (arith, part_length t y ry)))

-- ---- the symbols that avoid them

-- what is told of each number in a set is told of each in that set and one more
pub or-each : (P : ℕ → Type 0) (a b : ℕ) → ((σ : ℕ) → bit a σ ≡ 1 → P σ) → ((σ : ℕ) → bit b σ ≡ 1 → P σ) → (σ : ℕ) → bit (bit_or a b) σ ≡ 1 → P σ
or-each P a b f g σ h = ⊎_elim (f σ) (g σ) ((or-has a b σ).0 h)

-- where the overloops of row i as a part on a side stand
pub part-on : (rows : List ℕ) (i : ℕ) (s : Side) → take 24 (drop (i * 51 + 3 + side_number s * 24) rows) ≡ part_on s (class_in rows i)
part-on rows i Side.Left = let e : i * 51 + 3 + 0 * 24 ≡ i * 51 + 3 = omega arith in ap (λ (k : ℕ). take 24 (drop k rows)) e
part-on rows i Side.Right = let e : i * 51 + 3 + 1 * 24 ≡ i * 51 + 27 = omega arith in ap (λ (k : ℕ). take 24 (drop k rows)) e

-- ---- rows found to be interchangeable

module _ (A : Automaton) (σ : ℕ) (s : Side) where
  -- where no step down enters a state in which they differ
  pub found : (n : ℕ) (entered rows : List ℕ) (i j x y differ : ℕ) → Enters A n entered → x ≡ j * 51 + 3 + side_number s * 24 → y ≡ i * 51 + 3 + side_number s * 24
      → SameOutside differ (take 24 (drop x rows)) (take 24 (drop y rows)) → (σ < n) × (bit_and (get_or entered (word_place σ s) 0) differ ≡ 0)
      → Interchangeable A σ s (class_in rows j) (class_in rows i)
  found n entered rows i j x y differ e ex ey same avoids τ =
      let steps : List ℕ = moves A σ τ (Move.Down s) in
      ap (composed steps) (sym (ap (λ (k : ℕ). take 24 (drop k rows)) ex ∙ part-on rows j s))
      ∙ avoiding-same steps (take 24 (drop x rows)) (take 24 (drop y rows)) (get_or entered (word_place σ s) 0) differ (e σ s avoids.0 τ) same avoids.1
      ∙ ap (composed steps) (ap (λ (k : ℕ). take 24 (drop k rows)) ey ∙ part-on rows i s)

  -- a double of rows is one of others with the same classes
  pub doubled-as : (class class' : ℕ → Parts) (i : ℕ) → ((j : ℕ) → j ≤ i → class j ≡ class' j) → Doubled A σ s class i → Doubled A σ s class' i
  doubled-as class class' i h d = (d.0, d.1, λ τ. rw (← h d.0 (omega (arith, d.1)), ← h i (omega arith)) (d.2 τ))
