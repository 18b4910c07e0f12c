-- Laws of trying candidates: one, none, one after the other.
-- Assumes nothing.
use Prim.Native.Nat.{ℕ, ◌<◌, ◌≤◌}
use mathlib.Core.Path.{◌≡◌, refl, sym, ap, ap₂, ◌∙◌}
use mathlib.Core.Logic.{inl}
use mathlib.Core.Bool.{Bool, true, false}
use mathlib.Core.Option.{none}
use mathlib.Core.List.{List, [], ◌∷◌, ◌++◌, flat_map, append-nil}
use native.Mathlib.Omega.{arith}
use lib.ListN.{length}
use Rattle.model.proofs.ListLaws.{nth-lt, nth-of-lt, nth-get_d}
use Rattle.model.specs.Saturation.{Algebra, Candidate, witness_row, leaf_candidate, class_at, node_candidate, first_if, first_accepted, known, keep_if_new, absorb}
use Rattle.model.proofs.Turns.{absorb-append, absorb-at, first-here, first-later}
use Rattle.algorithms.specs.Automaton.{Automaton}
use Rattle.algorithms.specs.Saturate.{Parts, algebra_of}
use Rattle.representatives.specs.Stored.{origin_of, class_in, Stored}
use Rattle.candidates.specs.Tries.{Held, Keeps, Tries, accepted, onward, Few}
use Rattle.representatives.specs.declared.Origin.{Origin}
use Rattle.candidates.specs.declared.Tried.{Tried}
use Rattle.representatives.proofs.Table.{keep-full}

module _ (A : Automaton) where
  abbrev M : Algebra
  M = algebra_of A

  abbrev Rows : Type 0
  Rows = List (Candidate M)

  pub held : {base kept : Rows} {n : ℕ} {rows : List ℕ} → Keeps A base kept n rows → Held A base rows
  held h i c l m = h.stored.each i c l (h.extends i c m)

  -- ---- one candidate

  module _ {base kept : Rows} {n : ℕ} {rows : List ℕ} (c : Candidate M) (h : Keeps A base kept n rows) where
    pub one-accepted : (o : Origin) {b : Bool} → b ≡ c.accepted → b ≡ true → origin_of o ≡ c.row → Tries A base kept (c ∷ []) rows (Tried.Accepted o)
    unfolding first_accepted first_if
    one-accepted o e t r = accepted c (rw (← e, t) refl) r (held h)

    not-accepted : {b : Bool} → b ≡ c.accepted → b ≡ false → first_accepted M (c ∷ []) ≡ none
    unfolding first_accepted first_if
    not-accepted e f = rw (← e, f) refl

    pub one_kept : (m : ℕ) (rows' : List ℕ) {b : Bool} → b ≡ c.accepted → b ≡ false
        → Stored A rows' m (keep_if_new M (known M c.class kept) kept c) → Tries A base kept (c ∷ []) rows' (Tried.Kept m)
    unfolding absorb
    one_kept m rows' e f s = onward (not-accepted e f) (record { stored = s; extends = λ i d k. absorb-at M kept (c ∷ []) (h.extends i d k) })

    pub one-full : 64 < n → {b : Bool} → b ≡ c.accepted → b ≡ false → Tries A base kept (c ∷ []) rows (Tried.Kept 65)
    one-full l e f = one_kept 65 rows e f (keep-full A rows n kept c h.stored l _)

  -- ---- a node over two rows

  module _ {base kept : Rows} {n : ℕ} {rows : List ℕ} (h : Keeps A base kept n rows) where
    pub class-is : (i : ℕ) → i < length base → i < 64 → {x : Parts} → x ≡ class_in rows i → x ≡ class_at M base i
    unfolding class_at
    class-is i l few e =
        let r = nth-of-lt base i l in
        e ∙ (held h i r.0 few r.1).class ∙ ap (λ (c : Candidate M). c.class) (sym (nth-get_d (leaf_candidate M 0) r.1))

    module _ (σ a b : ℕ) (la : a < length base) (lb : b < length base) (fa : a < 64) (fb : b < 64) {x y : Parts} (ex : x ≡ class_in rows a) (ey : y ≡ class_in rows b) where
      pub node-class-is : {z : Parts} → z ≡ M.node_class σ x y → z ≡ (node_candidate M base σ a b).class
      unfolding node_candidate
      node-class-is e = e ∙ ap₂ (M.node_class σ) (class-is a la fa ex) (class-is b lb fb ey)

      pub node-accepted-is : {t : Bool} → t ≡ M.node_accepted σ x y → t ≡ (node_candidate M base σ a b).accepted
      unfolding node_candidate
      node-accepted-is e = e ∙ ap₂ (M.node_accepted σ) (class-is a la fa ex) (class-is b lb fb ey)

  pub node-row-is : (base : Rows) (σ a b : ℕ) → witness_row σ a b ≡ (node_candidate M base σ a b).row
  unfolding node_candidate
  node-row-is base σ a b = refl

  -- ---- a leaf

  pub leaf-row-is : (σ : ℕ) → witness_row σ 255 255 ≡ (leaf_candidate M σ).row
  unfolding leaf_candidate
  leaf-row-is σ = refl

  pub leaf-class-is : (σ : ℕ) {z : Parts} → z ≡ M.leaf_class σ → z ≡ (leaf_candidate M σ).class
  unfolding leaf_candidate
  leaf-class-is σ e = e

  pub leaf-accepted-is : (σ : ℕ) {t : Bool} → t ≡ M.leaf_accepted σ → t ≡ (leaf_candidate M σ).accepted
  unfolding leaf_candidate
  leaf-accepted-is σ e = e

  -- ---- one after the other

  none_tried : {base kept : Rows} {n : ℕ} {rows : List ℕ} → Keeps A base kept n rows → Tries A base kept [] rows (Tried.Kept n)
  unfolding first_accepted absorb
  none_tried h = onward refl h

  then-tried : {base kept cs ds : Rows} {n : ℕ} {rows rows' : List ℕ} {r : Tried} → Tries A base kept cs rows (Tried.Kept n)
      → Tries A base (absorb M kept cs) ds rows' r → Tries A base kept (cs ++ ds) rows' r
  then-tried {cs = cs} {ds = ds} (onward k h) (accepted c e o b) = accepted c (first-later M cs ds k ∙ e) o b
  then-tried {kept = kept} {cs = cs} {ds = ds} (onward k h) (onward e g) = onward (first-later M cs ds k ∙ e) (rw (sym (absorb-append M kept cs ds)) at g)

  accepted-before : {base kept cs : Rows} {o : Origin} {rows : List ℕ} (ds : Rows) → Tries A base kept cs rows (Tried.Accepted o)
      → Tries A base kept (cs ++ ds) rows (Tried.Accepted o)
  accepted-before {cs = cs} ds (accepted c e o b) = accepted c (first-here M cs ds c e) o b

  -- ---- the turns of a loop over a list: before the first, one turn, and where it ends early

  -- no row, whatever the table has
  pub no_rows : {rows : List ℕ} → Keeps A [] [] 0 rows
  no_rows = record { stored = record { count = inl (refl, omega arith); each = λ i c l m. absurd (omega (arith, nth-lt m)) }; extends = λ i c m. m }

  pub begun : {base kept cs : Rows} {n : ℕ} {rows : List ℕ} → cs ≡ [] → Keeps A base kept n rows → Tries A base kept cs rows (Tried.Kept n)
  begun e h = rw e (none_tried h)

  pub turn : {base kept cs ds all : Rows} {n : ℕ} {rows rows' : List ℕ} {r r' : Tried} → all ≡ cs ++ ds → Tries A base kept cs rows (Tried.Kept n)
      → (Keeps A base (absorb M kept cs) n rows → Tries A base (absorb M kept cs) ds rows' r) → r ≡ r' → Tries A base kept all rows' r'
  turn e k f same = rw (← same, e) (then-tried k (f (onward-holds k)))
    where
      onward-holds : {base kept cs : Rows} {n : ℕ} {rows : List ℕ} → Tries A base kept cs rows (Tried.Kept n) → Keeps A base (absorb M kept cs) n rows
      onward-holds (onward e h) = h

  pub ended : {base kept cs all : Rows} {o : Origin} {rows : List ℕ} (ds : Rows) → all ≡ cs ++ ds → Tries A base kept cs rows (Tried.Accepted o)
      → Tries A base kept all rows (Tried.Accepted o)
  ended ds e t = rw e (accepted-before ds t)

  -- the candidates of one number or of none
  pub of_one : (f : ℕ → Rows) (σ : ℕ) {base kept : Rows} {rows : List ℕ} {r : Tried} {l : List ℕ} → l ≡ σ ∷ [] → Tries A base kept (f σ) rows r
      → Tries A base kept (flat_map f l) rows r
  unfolding flat_map
  of_one f σ e t = rw (e, append-nil (f σ)) t

  pub of_none : (f : ℕ → Rows) {base kept : Rows} {n : ℕ} {rows : List ℕ} {l : List ℕ} → l ≡ [] → Keeps A base kept n rows
      → Tries A base kept (flat_map f l) rows (Tried.Kept n)
  unfolding flat_map
  of_none f e h = rw e (none_tried h)

pub few-kept : {r : Tried} {m : ℕ} → r ≡ Tried.Kept m → Few r → m ≤ 65
few-kept e f = rw e at f
