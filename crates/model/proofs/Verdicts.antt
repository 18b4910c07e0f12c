-- Of the three verdicts, at most one holds, and at one height only.
use Prim.Native.Nat.{ℕ, suc, ◌≤◌, ◌<◌}
use mathlib.Core.Path.{◌≡◌}
use native.Mathlib.Omega.{arith}
use native.Mathlib.Decide.{dec_le}
use Rattle.model.specs.Counting.{Alphabet, Language, FoundAt, OpenAt, EmptyAt}
use Rattle.model.specs.Saturation.{Algebra}
use Rattle.model.proofs.Recognition.{Recognizes}
use Rattle.model.proofs.CountingLaws.{counts-mono}

-- Two heights of which neither is the lower.
same-height : (h i : ℕ) → ¬ (h < i) → ¬ (i < h) → h ≡ i
same-height h i a b = omega arith

module _ (S : Alphabet) (L : Language) (M : Algebra) (W : Recognizes S L M) (limit : ℕ) where
  lower-found : {h i : ℕ} → FoundAt S L limit h → FoundAt S L limit i → ¬ (h < i)
  lower-found f g b = let t = f.accepting in g.lowest t.0 t.1 (omega (arith, t.2)) t.3

  pub found-unique : {h i : ℕ} → FoundAt S L limit h → FoundAt S L limit i → h ≡ i
  found-unique {h} {i} f g = same-height h i (lower-found f g) (lower-found g f)

  lower-open : {h i : ℕ} → OpenAt S L limit h → OpenAt S L limit i → ¬ (h < i)
  lower-open {h} o p b = let m = o.many in omega (arith, m.2, p.least h b m.0 m.1)

  pub open-unique : {h i : ℕ} → OpenAt S L limit h → OpenAt S L limit i → h ≡ i
  open-unique {h} {i} o p = same-height h i (lower-open o p) (lower-open p o)

  lower-empty : {h i : ℕ} → EmptyAt S L limit h → EmptyAt S L limit i → ¬ (h < i)
  lower-empty {h} e f b = let s = e.steady in f.least h b s.0 s.1 s.2

  pub empty-unique : {h i : ℕ} → EmptyAt S L limit h → EmptyAt S L limit i → h ≡ i
  empty-unique {h} {i} e f = same-height h i (lower-empty e f) (lower-empty f e)

  pub found-not-open : {h i : ℕ} → FoundAt S L limit h → OpenAt S L limit i → ⊥
  found-not-open {h} {i} f o = by (dec_le h i)
    where
      by : Dec (h ≤ i) → ⊥
      by (yes b) = let t = f.accepting in o.rejecting t.0 t.1 (omega (arith, t.2)) t.3
      by (no b) =
          let n = f.few in
          let m = o.many in
          omega (arith, n.2, m.2, counts-mono S L M W {k = suc i} {k' = h} (omega arith) m.1 n.1)

  pub found-not-empty : {h i : ℕ} → FoundAt S L limit h → EmptyAt S L limit i → ⊥
  found-not-empty f e = let t = f.accepting in e.rejecting t.0 t.1 t.3

  pub open-not-empty : {h i : ℕ} → OpenAt S L limit h → EmptyAt S L limit i → ⊥
  open-not-empty {h} o e = let m = o.many in omega (arith, m.2, e.few (suc h) m.0 m.1)
