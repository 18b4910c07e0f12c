-- Each row of the witness that a saturation finds builds a tree over the alphabet: the rows kept, and the first accepted candidate.
-- Assumes nothing.
use Prim.Native.Nat.{ℕ, zero, suc, ◌<◌}
use native.Mathlib.Omega.{arith}
use native.Mathlib.Decide.{dec_lt}
use mathlib.Core.Path.{◌≡◌, refl, sym, ap, subst, ◌∙◌}
use mathlib.Core.Bool.{Bool, true, false}
use mathlib.Core.Option.{Option, none, some}
use mathlib.Core.List.{List, [], ◌∷◌, ◌++◌}
use lib.ListN.{length, length-map, length-append}
use Rattle.model.specs.Lists.{◌∈◌}
use Rattle.model.proofs.ListLaws.{nth-of-lt, nth-mem, nth-append}
use Rattle.model.specs.Trees.{Tree}
use Rattle.model.specs.Counting.{Alphabet, Language, Over}
use Rattle.model.specs.Saturation.{WitnessRow, BuildsAt, Algebra, Candidate, Verdict, Found, Open, Empty, Ending, done, onward}
use Rattle.model.specs.Saturation.{candidates, first_accepted, absorb, rows_of, settle, conclude, round, after, rounds, saturation}
use Rattle.model.proofs.Witnesses.{builds-more}
use Rattle.model.proofs.Recognition.{Recognizes}
use Rattle.model.proofs.Round.{first_some}
use Rattle.model.proofs.Rows.{kept_before, Grown, grown, candidate-makes}

module _ (S : Alphabet) (M : Algebra) where
  -- the rows of a witness: those kept before some round, and then a candidate of that round
  pub record Kept (p : List WitnessRow) : Type 0 where
    pub round : ℕ
    pub last : Candidate M
    pub listed : last ∈ candidates M S round (kept_before S M round)
    pub is : p ≡ rows_of M (kept_before S M round) ++ last.row ∷ []

  abbrev FoundKept : Verdict → Type 0
  FoundKept (Found h p) = Kept p
  FoundKept (Open h) = Unit {0}
  FoundKept (Empty h) = Unit {0}

  abbrev Ended : ℕ → Ending M → Type 0
  Ended h (done v) = FoundKept v
  Ended h (onward next) = next ≡ kept_before S M (suc h)

  module _ (limit : ℕ) where
    settled : (h : ℕ) (full quiet : Bool) → Ended h (settle M h full quiet (kept_before S M (suc h)))
    unfolding settle
    settled h true quiet = tt
    settled h false true = tt
    settled h false false = refl

    concluded : (h : ℕ) (o : Option (Candidate M)) → first_accepted M (candidates M S h (kept_before S M h)) ≡ o
        → Ended h (conclude M limit h (kept_before S M h) o (kept_before S M (suc h)))
    unfolding conclude
    concluded h (some c) e = record { round = h; last = c; listed = (first_some M (candidates M S h (kept_before S M h)) c e).0; is = refl }
    concluded h none e = settled h _ _

    next-rows : (h : ℕ) → absorb M (kept_before S M h) (candidates M S h (kept_before S M h)) ≡ kept_before S M (suc h)
    unfolding kept_before
    next-rows h = refl

    round-ended : (h : ℕ) → Ended h (round M S limit h (kept_before S M h))
    unfolding round
    round-ended h = rw (next-rows h) (concluded h (first_accepted M (candidates M S h (kept_before S M h))) refl)

    rounds-kept : (fuel h : ℕ) → FoundKept (rounds M S limit fuel h (kept_before S M h))
    unfolding rounds after
    rounds-kept zero h = tt
    rounds-kept (suc fuel) h = go (round M S limit h (kept_before S M h)) (round-ended h) (rounds-kept fuel (suc h))
      where
        go : (o : Ending M) → Ended h o → FoundKept (rounds M S limit fuel (suc h) (kept_before S M (suc h)))
            → FoundKept (after M o (λ next. rounds M S limit fuel (suc h) next))
        go (done v) r later = r
        go (onward next) r later = rw r later

    saturation-kept : FoundKept (saturation M S limit)
    unfolding saturation kept_before
    saturation-kept = rounds-kept (suc limit) 0

    pub found-kept : (h : ℕ) (p : List WitnessRow) → saturation M S limit ≡ Found h p → Kept p
    found-kept h p e = subst FoundKept e saturation-kept

-- a row's tree, over the alphabet
abbrev pub RowBuilt : Alphabet → List WitnessRow → ℕ → Type 0
RowBuilt S p i = (t : Tree) × BuildsAt p i t × Over S t

module _ (S : Alphabet) (L : Language) (M : Algebra) (W : Recognizes S L M) where
  module _ (p : List WitnessRow) (k : Kept S M p) where
    abbrev kept : List (Candidate M)
    kept = kept_before S M k.round

    abbrev g : Grown S L M W k.round kept
    g = grown S L M W k.round

    many : length g.trees ≡ length kept
    many = sym (length-map g.trees W.cls) ∙ ap length g.classed ∙ length-map kept (λ r. r.class)

    rows : length (rows_of M kept) ≡ length kept
    rows = length-map kept (λ r. r.row)

    pub rows-built : (i : ℕ) → i < length p → RowBuilt S p i
    rows-built i l = rw k.is (by (dec_lt i (length kept)))
      where
        by : Dec (i < length kept) → RowBuilt S (rows_of M kept ++ k.last.row ∷ []) i
        by (yes h) =
            let a = nth-of-lt g.trees i (omega (arith, many)) in
            (a.0, builds-more (λ j r f. nth-append _ f) (g.built i a.0 a.1), (g.inside a.0 (nth-mem a.1)).0)
        by (no h) =
            let m = candidate-makes S L M W k.round g k.last k.listed in
            let e : length (rows_of M kept) ≡ i = omega (arith, rows, length-append (rows_of M kept) (k.last.row ∷ []), ap length k.is) in
            (m.tree, subst (λ (j : ℕ). BuildsAt (rows_of M kept ++ k.last.row ∷ []) j m.tree) e (m.built (rows_of M kept) (λ j r a. a)), m.over)
