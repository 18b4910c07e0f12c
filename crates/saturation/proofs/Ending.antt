-- Laws of the rounds: what a round ends with, or leaves to the next.
-- Assumes nothing.
use Prim.Native.Nat.{ℕ, zero, suc, ◌+◌, ◌-◌, ◌≤◌, ◌<◌}
use mathlib.Core.Path.{◌≡◌, refl, sym, ap, subst, ◌∙◌}
use mathlib.Core.Logic.{inl, inr}
use mathlib.Core.Option.{none}
use mathlib.Core.List.{List, [], ◌∷◌, ◌++◌, map}
use native.Mathlib.Nat.{add-zero}
use native.Mathlib.Omega.{arith}
use borrow.Author.Tests.{lt-ltb, le-ltb, eq-eqb, ne_eqb}
use lib.ListN.{length}
use Rattle.model.specs.Lists.{◌∈◌, Nth, here, there, count_from}
use Rattle.model.proofs.ListLaws.{nth-lt}
use Rattle.model.specs.Saturation.{Algebra, Candidate, Verdict, Found, Open, Empty, class_at, first_accepted, absorb, rows_of, settle, conclude, after}
use Rattle.model.proofs.Turns.{absorb-longer}
use Rattle.model.specs.Fresh.{fresh_candidates, fresh_round, fresh_rounds, fresh_saturation}
use Rattle.model.proofs.FreshRows.{Stale, class-stays, fresh-stale}
use Rattle.algorithms.specs.Automaton.{Automaton, alphabet_of}
use Rattle.algorithms.specs.Saturate.{Parts, algebra_of, saturation_of}
use Rattle.algorithms.proofs.Recognized.{same-sound, same_refl}
use Rattle.algorithms.proofs.Theorems.{fresh-same}
use Rattle.representatives.specs.Stored.{origin_of, origin_in, origins_in, class_in, Count}
use Rattle.interchange.specs.Interchange.{MarkedAt, Marked}
use Rattle.interchange.proofs.Laws.{words-none, doubled-as}
use Rattle.candidates.specs.Tries.{Held, Keeps, Settled, Skips, Tries, accepted, onward}
use Rattle.representatives.specs.declared.Origin.{Origin}
use Rattle.candidates.specs.declared.Tried.{Tried}
use Rattle.candidates.proofs.Trying.{no_rows, class-is}

module _ (A : Automaton) where
  abbrev M : Algebra
  M = algebra_of A

  -- the table has how the trees of the rows are built
  origins-from : (rows : List ℕ) (s : ℕ) (l : List (Candidate M)) → ((i : ℕ) (c : Candidate M) → Nth l i c → origin_in rows (s + i) ≡ c.row)
      → map (origin_in rows) (count_from s (length l)) ≡ rows_of M l
  unfolding count_from
  origins-from rows s [] h = refl
  origins-from rows s (c ∷ l) h =
      let first : origin_in rows s ≡ c.row = ap (origin_in rows) (sym (add-zero s)) ∙ h 0 c (here refl) in
      let later = origins-from rows (suc s) l (λ i d n. ap (origin_in rows) (omega arith) ∙ h (suc i) d (there n)) in
      rw (first, later) refl

  origins-are : (rows : List ℕ) (base : List (Candidate M)) (n : ℕ) → length base ≡ n → n ≤ 64 → Held A base rows → origins_in rows n ≡ rows_of M base
  origins-are rows base n e few h =
      rw (← e) (origins-from rows 0 base (λ i c m. ap (origin_in rows) (omega arith) ∙ (h i c (omega (arith, nth-lt m)) m).origin))

  abbrev tried_in : (h old : ℕ) (base : List (Candidate M)) → List (Candidate M)
  tried_in h old base = fresh_candidates M (alphabet_of A) h old base

  module _ (fuel h old : ℕ) (base : List (Candidate M)) {rows : List ℕ} where
    pub round-found : (n : ℕ) {o : Origin} → length base ≡ n → n ≤ 64 → Tries A base base (tried_in h old base) rows (Tried.Accepted o)
        → fresh_rounds M (alphabet_of A) 64 (suc fuel) h old base ≡ Found h (origins_in rows n ++ origin_of o ∷ [])
    unfolding fresh_rounds fresh_round conclude after
    round-found n e few (accepted c f r b) = rw (f, r, origins-are rows base n e few b) refl

    -- the rows after a round in which none was accepted
    counted : {m : ℕ} → Tries A base base (tried_in h old base) rows (Tried.Kept m) → (first_accepted M (tried_in h old base) ≡ none) × Count m (length (absorb M base (tried_in h old base)))
    counted (onward e k) = (e, k.stored.count)

    pub round-open : {m : ℕ} → 64 < m → Tries A base base (tried_in h old base) rows (Tried.Kept m) → fresh_rounds M (alphabet_of A) 64 (suc fuel) h old base ≡ Open h
    unfolding fresh_rounds fresh_round conclude settle after
    round-open {m} l t = rw ((counted t).0, lt-ltb 64 (length (absorb M base (tried_in h old base))) (many (counted t).1)) refl
      where
        many : Count m (length (absorb M base (tried_in h old base))) → 64 < length (absorb M base (tried_in h old base))
        many (inl e) = absurd (omega (arith, e.0, e.1))
        many (inr e) = e.1

    few-rows : {m : ℕ} → m ≤ 64 → Tries A base base (tried_in h old base) rows (Tried.Kept m) → m ≡ length (absorb M base (tried_in h old base))
    few-rows {m} l t = by (counted t).1
      where
        by : Count m (length (absorb M base (tried_in h old base))) → m ≡ length (absorb M base (tried_in h old base))
        by (inl e) = e.0
        by (inr e) = absurd (omega (arith, e.0))

    pub round-empty : {m : ℕ} → m ≤ 64 → m ≤ length base → Tries A base base (tried_in h old base) rows (Tried.Kept m)
        → fresh_rounds M (alphabet_of A) 64 (suc fuel) h old base ≡ Empty h
    unfolding fresh_rounds fresh_round conclude settle after
    round-empty l none-new t =
        let f = few-rows l t in
        let e : length (absorb M base (tried_in h old base)) ≡ length base = omega (arith, f, absorb-longer M base (tried_in h old base)) in
        rw ((counted t).0, le-ltb 64 (length (absorb M base (tried_in h old base))) (omega (arith, f)), eq-eqb (length (absorb M base (tried_in h old base))) (length base) e) refl

    pub round-on : {m : ℕ} → m ≤ 64 → length base < m → Tries A base base (tried_in h old base) rows (Tried.Kept m)
        → fresh_rounds M (alphabet_of A) 64 (suc fuel) h old base ≡ fresh_rounds M (alphabet_of A) 64 fuel (suc h) (length base) (absorb M base (tried_in h old base))
    unfolding fresh_rounds fresh_round conclude settle after
    round-on l n t =
        let f = few-rows l t in
        rw ((counted t).0, le-ltb 64 (length (absorb M base (tried_in h old base))) (omega (arith, f)), ne_eqb (length (absorb M base (tried_in h old base))) (length base) (λ e. omega (arith, f))) refl

    pub next-rows : {m : ℕ} → m ≤ 64 → Tries A base base (tried_in h old base) rows (Tried.Kept m)
        → Keeps A (absorb M base (tried_in h old base)) (absorb M base (tried_in h old base)) m rows × (length (absorb M base (tried_in h old base)) ≡ m)
    next-rows l t = (by t, sym (few-rows l t))
      where
        by : {m : ℕ} → Tries A base base (tried_in h old base) rows (Tried.Kept m) → Keeps A (absorb M base (tried_in h old base)) (absorb M base (tried_in h old base)) m rows
        by (onward e k) = record { stored = k.stored; extends = λ i c p. p }

  -- ---- from round to round

  -- the tables as a round begins, the old rows being marked, and what the rounds from here on say
  pub record Begins (rows doubles : List ℕ) (old n height : ℕ) : Type 0 where
    pub base : List (Candidate M)
    pub holds : Keeps A base base n rows
    pub count : length base ≡ n
    pub first : height ≡ 0 → base ≡ []
    pub stale : Stale M (alphabet_of A) height old base
    pub marks : Marked A (class_at M base) old doubles
    pub rest : saturation_of A ≡ fresh_rounds M (alphabet_of A) 64 (65 - height) height old base

  pub begins : (rows doubles : List ℕ) → Begins rows doubles 0 0 0
  unfolding fresh_saturation
  begins rows doubles =
      record { base = []; holds = no_rows A; count = refl; first = λ e. refl; stale = refl; marks = words-none (MarkedAt A (class_at M [])) doubles; rest = sym (fresh-same A) }

  -- the candidates over two old rows need not be tried
  stale-pairs : (h old : ℕ) (base : List (Candidate M)) → old ≤ length base → Stale M (alphabet_of A) h old base
      → (σ a b : ℕ) → σ ∈ (alphabet_of A).branches → a < old → b < old → Settled A base base σ a b
  stale-pairs zero old base l s = λ σ a b m la lb. absurd (omega (arith, ap length s))
  stale-pairs (suc h) old base l s = s.1

  module _ (rows doubles : List ℕ) (old n height : ℕ) (b : Begins rows doubles old n height) (soon : height < 65) (some-old : old ≤ n) (few : n ≤ 64) (doubles' : List ℕ)
      (m : (class : ℕ → Parts) → ((i : ℕ) → i < n → class_in rows i ≡ class i) → Marked A class old doubles → Marked A class n doubles') (rows' : List ℕ) (r : Tried)
      (t : (base : List (Candidate M)) → Keeps A base base n rows → length base ≡ n → (height ≡ 0 → base ≡ []) → Skips A base old doubles'
      → Tries A base base (tried_in height old base) rows' r) where
    all-marked : Marked A (class_at M b.base) n doubles'
    all-marked = m (class_at M b.base) (λ i l. class-is A b.holds i (omega (arith, b.count)) (omega arith) refl) b.marks

    skips : Skips A b.base old doubles'
    skips = record { marks = rw b.count all-marked; pairs = stale-pairs height old b.base (omega (arith, b.count)) b.stale }

    told : {s : Tried} → r ≡ s → Tries A b.base b.base (tried_in height old b.base) rows' s
    told e = rw e at (t b.base b.holds b.count b.first skips)

    one-round : {v : Verdict} → fresh_rounds M (alphabet_of A) 64 (suc (64 - height)) height old b.base ≡ v → saturation_of A ≡ v
    one-round e = let fuel : 65 - height ≡ suc (64 - height) = omega arith in rw fuel at b.rest ∙ e

    pub ends_found : {o : Origin} → r ≡ Tried.Accepted o → saturation_of A ≡ Found height (origins_in rows' n ++ origin_of o ∷ [])
    ends_found e = one-round (round-found (64 - height) height old b.base n b.count few (told e))

    pub ends_open : {m : ℕ} → r ≡ Tried.Kept m → 64 < m → saturation_of A ≡ Open height
    ends_open e l = one-round (round-open (64 - height) height old b.base l (told e))

    pub ends-empty : {m : ℕ} → r ≡ Tried.Kept m → m ≤ 64 → m ≤ n → saturation_of A ≡ Empty height
    ends-empty e l none-new = one-round (round-empty (64 - height) height old b.base l (rw (← b.count) at none-new) (told e))

    pub goes_on : {m : ℕ} → r ≡ Tried.Kept m → m ≤ 64 → n < m → Begins rows' doubles' n m (height + 1)
    goes_on e l new =
        let next = next-rows (64 - height) height old b.base l (told e) in
        let on = one-round (round-on (64 - height) height old b.base l (rw (← b.count) at new) (told e)) in
        let none-accepted = (counted (64 - height) height old b.base (told e)).0 in
        let fuel : 64 - height ≡ 65 - (height + 1) = omega arith in
        let later : suc height ≡ height + 1 = omega arith in
        record {
          base = absorb M b.base (tried_in height old b.base);
          holds = next.0;
          count = next.1;
          first = λ (z : height + 1 ≡ 0). absurd (omega arith);
          stale =
              subst (λ (k : ℕ). Stale M (alphabet_of A) k n (absorb M b.base (tried_in height old b.base))) later
              (rw b.count at (fresh-stale M same-sound same_refl (alphabet_of A) height old b.base b.stale none-accepted));
          marks = λ i s k σ q.
              doubled-as A σ s (class_at M b.base) _ i
              (λ j h. sym (class-stays M b.base (tried_in height old b.base) j (omega (arith, b.count)))) (all-marked i s k σ q);
          rest = rw (fuel, later, b.count) at on;
        }
