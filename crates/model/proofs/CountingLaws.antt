-- N(h) is one number at most, and it never falls as h grows. (That there is one: `counts-exist` of Rows.)
use Prim.Native.Nat.{ℕ, ◌≤◌, ◌<◌}
use mathlib.Core.Path.{◌≡◌, refl, sym}
use mathlib.Core.List.Memᴰ
use mathlib.Core.List.{List, [], ◌∷◌, map}
use native.Mathlib.Omega.{arith}
use lib.ListN.{length, length-map}
use Rattle.model.specs.Lists.{◌∈◌, Distinct}
use Rattle.model.proofs.ListLaws.{pigeonhole}
use Rattle.model.specs.Trees.{Tree, height}
use Rattle.model.specs.Counting.{Alphabet, Language, Over, Inequivalent, Counts}
use Rattle.model.specs.Saturation.{Algebra}
use Rattle.model.proofs.Recognition.{Recognizes}

module _ (S : Alphabet) (L : Language) (M : Algebra) (W : Recognizes S L M) where
  -- Inequivalent trees have distinct classes.
  distinct-classes : (ts : List Tree) → ((t : Tree) → t ∈ ts → Over S t) → Inequivalent S L ts → Distinct (map W.cls ts)
  distinct-classes [] over un = tt
  distinct-classes (t ∷ ts) over un = (
    λ m. let r = Memᴰ.of_map W.cls ts m in
        un.0 r.0 r.1 ((W.equivalent t r.0 (over t (Memᴰ.head refl)) (over r.0 (Memᴰ.tail r.1))).1 (sym r.2)),
    distinct-classes ts (λ u k. over u (Memᴰ.tail k)) un.1,
  )

  -- And the other way round.
  pub inequivalent-trees : (ts : List Tree) → ((t : Tree) → t ∈ ts → Over S t) → Distinct (map W.cls ts) → Inequivalent S L ts
  inequivalent-trees [] over d = tt
  inequivalent-trees (t ∷ ts) over d = (
    λ u m a. d.0 (Memᴰ.cast ((W.equivalent t u (over t (Memᴰ.head refl)) (over u (Memᴰ.tail m))).0 a) (Memᴰ.map W.cls m)),
    inequivalent-trees ts (λ u k. over u (Memᴰ.tail k)) d.1,
  )

  -- Where a list has the class of each tree of height below k, it is at least as long as N(k - 1).
  pub counts-le : {k n : ℕ} → Counts S L k n → (xs : List M.Class) → ((t : Tree) → Over S t → height t < k → W.cls t ∈ xs) → n ≤ length xs
  counts-le c xs has =
      let among : (x : M.Class) → x ∈ map W.cls c.trees → x ∈ xs =
      λ x m. let r = Memᴰ.of_map W.cls c.trees m in
      let i = c.inside r.0 r.1 in
      Memᴰ.cast (sym r.2) (has r.0 i.0 i.1) in
      let p = pigeonhole (map W.cls c.trees) xs (distinct-classes c.trees (λ t m. (c.inside t m).0) c.inequivalent) among in
      omega (arith, c.size, length-map c.trees W.cls)

  pub counts-mono : {k k' n m : ℕ} → k ≤ k' → Counts S L k n → Counts S L k' m → n ≤ m
  counts-mono {k} h c d =
      let has : (t : Tree) → Over S t → height t < k → W.cls t ∈ map W.cls d.trees =
      λ t o b. let a = d.all t o (omega arith) in
      Memᴰ.cast ((W.equivalent t a.0 o (d.inside a.0 a.1).0).0 a.2) (Memᴰ.map W.cls a.1) in
      omega (arith, counts-le c (map W.cls d.trees) has, d.size, length-map d.trees W.cls)

  pub counts-unique : {k n m : ℕ} → Counts S L k n → Counts S L k m → n ≡ m
  counts-unique {k} c d = omega (arith, counts-mono {k = k} (omega arith) c d, counts-mono {k = k} (omega arith) d c)
