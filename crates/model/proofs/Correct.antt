-- The saturation meets demand 3: `saturation-correct`, at the end. The proof asks nothing of the order of the symbols or of the limit.
use Prim.Native.Nat.{ℕ, zero, suc, ◌+◌, ◌≤◌, ◌<◌}
use mathlib.Core.Path.{◌≡◌, refl, ap, subst}
use mathlib.Core.Logic.{◌⊎◌, inl, inr}
use mathlib.Core.Bool.{Bool, true, false}
use mathlib.Core.Option.{Option, none, some}
use mathlib.Core.List.Memᴰ
use mathlib.Core.List.{List, [], ◌∷◌, ◌++◌}
use native.Mathlib.Omega.{arith}
use native.Mathlib.Decide.{ℕ_discrete}
use lib.ListN.{length, length-map, length-append}
use lib.Dec.{T, ltb, eqb, ltb→lt, nltb→le, eqb→eq, eqb_refl}
use Rattle.model.specs.Lists.{◌∈◌}
use Rattle.model.specs.Trees.{Tree, leaf, node, height}
use Rattle.model.specs.Counting.{Alphabet, Language, Over, Counts, FoundAt, OpenAt, EmptyAt}
use Rattle.model.specs.Saturation.{WitnessRow, Algebra, Candidate, Verdict, Found, Open, Empty, Ending, done, onward, candidates}
use Rattle.model.specs.Saturation.{first_accepted, absorb, rows_of, settle, conclude, round, after, rounds, saturation}
use Rattle.model.specs.Demand.{Told, WitnessFor, Correct}
use Rattle.model.proofs.Recognition.{Recognizes}
use Rattle.model.proofs.CountingLaws.{counts-le, counts-unique}
use Rattle.model.proofs.Round.{classes, first_some, first-none, absorb-steady}
use Rattle.model.proofs.Rows.{kept_before, grown, candidate-makes, Caught, catch, catch-node, absorb-caught, covers, counts}
use Rattle.model.proofs.Verdicts.{found-unique, open-unique, empty-unique, found-not-open, found-not-empty, open-not-empty}

eqb-false : (m n : ℕ) → eqb m n ≡ false → ¬ (m ≡ n)
eqb-false m n f e = let t : T (eqb m n) = rw e (eqb_refl n) in rw f at t

module _ (S : Alphabet) (L : Language) (M : Algebra) (W : Recognizes S L M) where
  -- The rows kept when round h begins, and the candidates of the round.
  abbrev kept : ℕ → List (Candidate M)
  kept h = kept_before S M h

  abbrev tried : ℕ → List (Candidate M)
  tried h = candidates M S h (kept h)

  -- Where no candidate of round h is accepted, no tree of height h is.
  quiet-level : (h : ℕ) → first_accepted M (tried h) ≡ none → (t : Tree) → Over S t → height t ≡ h → ¬ L.Accepted t
  quiet-level h e t o b p =
      let c = catch S L M W h (kept h) (covers S L M W h) t o b in
      first-none M (tried h) e c.candidate c.listed (c.accepting p)

  -- A tree over parts whose classes the rows have is caught, whatever its height.
  catch-any : (h σ : ℕ) (l r : Tree) → Over S (node σ l r) → W.cls l ∈ classes M (kept h) → W.cls r ∈ classes M (kept h)
      → Caught S L M W (tried h) (node σ l r)
  unfolding kept_before
  catch-any zero σ l r o i j = absurd (Memᴰ.not-nil i)
  catch-any (suc h) σ l r o i j = catch-node S L M W h (kept (suc h)) σ l r o i j

  -- Where round h adds no row, the rows have the class of every tree.
  all_known : (h : ℕ) → kept (suc h) ≡ kept h → (t : Tree) → Over S t → W.cls t ∈ classes M (kept h)
  unfolding kept_before
  all_known h e (leaf σ) o = rw e at (covers S L M W (suc h) (leaf σ) o (omega arith))
  all_known h e (node σ l r) o =
      rw e at (absorb-caught S L M W (kept h) (catch-any h σ l r o (all_known h e l o.1) (all_known h e r o.2)))

  module _ (limit : ℕ) where
    -- Round i gave no verdict.
    record WentBy (i : ℕ) : Type 0 where
      quiet : first_accepted M (tried i) ≡ none
      fits : length (kept (suc i)) ≤ limit
      grew : length (kept i) < length (kept (suc i))

    -- The rounds below h gave none.
    abbrev Before : ℕ → Type 0
    Before h = (i : ℕ) → i < h → WentBy i

    before-next : (h : ℕ) → Before h → WentBy h → Before (suc h)
    before-next h b w i j = by (ℕ_discrete i h)
      where
        by : Dec (i ≡ h) → WentBy i
        by (yes e) = rw e w
        by (no e) = b i (omega arith)

    rows_fit : (h : ℕ) → Before h → length (kept h) ≤ limit
    unfolding kept_before
    rows_fit zero b = omega arith
    rows_fit (suc h) b = (b h (omega arith)).fits

    -- Each round adds a row, so the height is at most the number of rows.
    rows-many : (h : ℕ) → Before h → h ≤ length (kept h)
    rows-many zero b = omega arith
    rows-many (suc h) b = omega (arith, rows-many h (λ i j. b i (omega arith)), (b h (omega arith)).grew)

    height-fits : (h : ℕ) → Before h → h ≤ limit
    height-fits h b = omega (arith, rows_fit h b, rows-many h b)

    none-lower : (h : ℕ) → Before h → (t : Tree) → Over S t → height t < h → ¬ L.Accepted t
    none-lower h b t o j = quiet-level (height t) (b (height t) j).quiet t o refl

    none_so_far : (h : ℕ) → Before h → first_accepted M (tried h) ≡ none → (t : Tree) → Over S t → height t ≤ h → ¬ L.Accepted t
    none_so_far h b q t o j = by (ℕ_discrete (height t) h)
      where
        by : Dec (height t ≡ h) → ¬ L.Accepted t
        by (yes e) = quiet-level h q t o e
        by (no e) = none-lower h b t o (omega arith)

    -- The N(i) of the rounds below are those of their rows.
    few-lower : (h : ℕ) → Before h → (i : ℕ) → i < h → (n : ℕ) → Counts S L (suc i) n → n ≤ limit
    few-lower h b i j n c = omega (arith, counts-unique S L M W c (counts S L M W (suc i)), (b i j).fits)

    grew-lower : (h : ℕ) → Before h → (i : ℕ) → i < h → (n : ℕ) → Counts S L i n → Counts S L (suc i) n → ⊥
    grew-lower h b i j n c d =
        omega (arith, counts-unique S L M W c (counts S L M W i), counts-unique S L M W d (counts S L M W (suc i)), (b i j).grew)

    -- ---- the three ways to end
    module _ (h : ℕ) (b : Before h) where
      -- With the first accepted candidate.
      module _ (c : Candidate M) (first : first_accepted M (tried h) ≡ some c) where
        found-witness : WitnessFor S L h (rows_of M (kept h) ++ c.row ∷ [])
        found-witness =
            let f = first_some M (tried h) c first in
            let m = candidate-makes S L M W h (grown S L M W h) c f.0 in
            let up : ¬ (height m.tree < h) = λ j. none-lower h b m.tree m.over j (m.accepting f.1) in
            record {
              count = length (kept h);
              counted = counts S L M W h;
              rows = omega (arith, length-append (rows_of M (kept h)) (c.row ∷ []), length-map (kept h) (λ r. r.row));
              tree = m.tree;
              over = m.over;
              high = omega (arith, m.low);
              accepted = m.accepting f.1;
              builds =
                  record {
                    last = length (rows_of M (kept h));
                    is_last = omega (arith, length-append (rows_of M (kept h)) (c.row ∷ []));
                    tree = m.built (rows_of M (kept h)) (λ i r a. a);
                  };
            }

        found_at : FoundAt S L limit h
        found_at =
            let p = found-witness in
            record {
              accepting = (p.tree, p.over, p.high, p.accepted);
              lowest = none-lower h b;
              few = (length (kept h), counts S L M W h, rows_fit h b);
            }

      module _ (quiet : first_accepted M (tried h) ≡ none) where
        open_at : limit < length (kept (suc h)) → OpenAt S L limit h
        open_at full =
            record { many = (length (kept (suc h)), counts S L M W (suc h), full); least = few-lower h b; rejecting = none_so_far h b quiet }

        none-accepted : kept (suc h) ≡ kept h → (t : Tree) → Over S t → ¬ L.Accepted t
        none-accepted e (leaf σ) o = none_so_far h b quiet (leaf σ) o (omega arith)
        none-accepted e (node σ l r) o =
            λ p. let c = catch-any h σ l r o (all_known h e l o.1) (all_known h e r o.2) in
            first-none M (tried h) quiet c.candidate c.listed (c.accepting p)

        empty-at : kept (suc h) ≡ kept h → EmptyAt S L limit h
        empty-at e =
            record {
              rejecting = none-accepted e;
              few =
                  λ k n c.
                  let l = counts-le S L M W c (classes M (kept h)) (λ t o j. all_known h e t o) in
                  omega (arith, rows_fit h b, length-map (kept h) (λ r. r.class), l);
              steady = (length (kept h), counts S L M W h, rw (ap length e) at (counts S L M W (suc h)));
              least = grew-lower h b;
            }

    -- ---- a round, and all rounds
    -- What a verdict has to mean.
    abbrev Right : Verdict → Type 0
    Right (Found h p) = FoundAt S L limit h × WitnessFor S L h p × (h ≤ limit)
    Right (Open h) = OpenAt S L limit h × (h ≤ limit)
    Right (Empty h) = EmptyAt S L limit h × (h ≤ limit)

    -- How round h has to end.
    abbrev Ended : ℕ → Ending M → Type 0
    Ended h (done v) = Right v
    Ended h (onward next) = (next ≡ kept (suc h)) × WentBy h

    -- The rows `kept (suc h)`, opened.
    next-rows : (h : ℕ) → absorb M (kept h) (tried h) ≡ kept (suc h)
    unfolding kept_before
    next-rows h = refl

    steady-or-grew : (h : ℕ) → (kept (suc h) ≡ kept h) ⊎ (length (kept h) < length (kept (suc h)))
    unfolding kept_before
    steady-or-grew h = absorb-steady M W.same-sound W.same_refl (tried h) (kept h)

    settled : (h : ℕ) → Before h → first_accepted M (tried h) ≡ none → (full quiet : Bool)
        → ltb limit (length (kept (suc h))) ≡ full → eqb (length (kept (suc h))) (length (kept h)) ≡ quiet
        → Ended h (settle M h full quiet (kept (suc h)))
    unfolding settle
    settled h b q true quiet e f = (open_at h b q (ltb→lt _ _ (rw e tt)), height-fits h b)
    settled h b q false true e f = by (steady-or-grew h)
      where
        by : (kept (suc h) ≡ kept h) ⊎ (length (kept h) < length (kept (suc h))) → EmptyAt S L limit h × (h ≤ limit)
        by (inl s) = (empty-at h b q s, height-fits h b)
        by (inr g) = absurd (omega (arith, eqb→eq (length (kept (suc h))) (length (kept h)) (rw f tt)))
    settled h b q false false e f = by (steady-or-grew h)
      where
        by : (kept (suc h) ≡ kept h) ⊎ (length (kept h) < length (kept (suc h))) → (kept (suc h) ≡ kept (suc h)) × WentBy h
        by (inl s) = absurd (eqb-false (length (kept (suc h))) (length (kept h)) f (ap length s))
        by (inr g) = (refl, record { quiet = q; fits = nltb→le limit (length (kept (suc h))) (rw e tt); grew = g })

    concluded : (h : ℕ) → Before h → (o : Option (Candidate M)) → first_accepted M (tried h) ≡ o
        → Ended h (conclude M limit h (kept h) o (kept (suc h)))
    unfolding conclude
    concluded h b (some c) e = (found_at h b c e, found-witness h b c e, height-fits h b)
    concluded h b none e = settled h b e _ _ refl refl

    round-ended : (h : ℕ) → Before h → Ended h (round M S limit h (kept h))
    unfolding round
    round-ended h b = rw (next-rows h) (concluded h b (first_accepted M (tried h)) refl)

    rounds-right : (fuel h : ℕ) → fuel + h ≡ suc limit → Before h → Right (rounds M S limit fuel h (kept h))
    unfolding rounds after
    rounds-right zero h e b = absurd (omega (arith, height-fits h b))
    rounds-right (suc fuel) h e b =
        go (round M S limit h (kept h)) (round-ended h b) (λ w. rounds-right fuel (suc h) (omega arith) (before-next h b w))
      where
        go : (o : Ending M) → Ended h o → (WentBy h → Right (rounds M S limit fuel (suc h) (kept (suc h))))
            → Right (after M o (λ next. rounds M S limit fuel (suc h) next))
        go (done v) r later = r
        go (onward next) r later = rw r.0 (later r.1)

    saturation-right : Right (saturation M S limit)
    unfolding saturation kept_before
    saturation-right = rounds-right (suc limit) 0 (omega arith) (λ i j. absurd (omega arith))

    -- ---- what is right is correct: at most one of the three holds
    found-told : (v : Verdict) → Right v → (h : ℕ) → FoundAt S L limit h → (p : List WitnessRow) × (v ≡ Found h p)
    found-told (Found k p) r h f = (p, rw (found-unique S L M W limit f r.0))
    found-told (Open k) r h f = absurd (found-not-open S L M W limit f r.0)
    found-told (Empty k) r h f = absurd (found-not-empty S L M W limit f r.0)

    open_told : (v : Verdict) → Right v → (h : ℕ) → OpenAt S L limit h → v ≡ Open h
    open_told (Found k p) r h o = absurd (found-not-open S L M W limit r.0 o)
    open_told (Open k) r h o = rw (open-unique S L M W limit o r.0)
    open_told (Empty k) r h o = absurd (open-not-empty S L M W limit o r.0)

    empty-told : (v : Verdict) → Right v → (h : ℕ) → EmptyAt S L limit h → v ≡ Empty h
    empty-told (Found k p) r h e = absurd (found-not-empty S L M W limit r.0 e)
    empty-told (Open k) r h e = absurd (open-not-empty S L M W limit r.0 e)
    empty-told (Empty k) r h e = rw (empty-unique S L M W limit e r.0)

    height-told : (v : Verdict) → Right v → Told limit v
    height-told (Found k p) r = r.2
    height-told (Open k) r = r.1
    height-told (Empty k) r = r.1

    right-correct : (v : Verdict) → Right v → Correct S L limit v
    right-correct v r =
        record {
          says_found = λ h. (λ x. (subst Right x.1 r).0, found-told v r h);
          witness = λ h p e. (subst Right e r).1;
          says_open = λ h. (λ e. (subst Right e r).0, open_told v r h);
          says_empty = λ h. (λ e. (subst Right e r).0, empty-told v r h);
          told = height-told v r;
        }

    pub saturation-correct : Correct S L limit (saturation M S limit)
    saturation-correct = right-correct (saturation M S limit) saturation-right
