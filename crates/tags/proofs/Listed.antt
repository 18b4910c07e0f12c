-- The nodes of a text from a place on.
-- Assumes nothing.
use Prim.Native.Nat.{ℕ, suc, ◌+◌, ◌-◌, ◌*◌, ◌<◌, ◌≤◌}
use native.Mathlib.Omega.{arith}
use native.Mathlib.Numerals.{add-one}
use mathlib.Core.Path.{◌≡◌, refl, sym, ap, ◌∙◌}
use mathlib.Core.Bool.{Bool}
use mathlib.Core.List.{List, [], ◌∷◌}
use lib.Dec.{eqb}
use lib.ListN.{length, get_or, drop, drop_of_length-le}
use lib.Seq.{drop-cons, get_or-drop}
use borrow.Author.Tests.{eq-eqb, ne_eqb}
use Rattle.tags.specs.Classes.{class_of}
use Rattle.tags.specs.Tags.{digit_of, tag_before, and_tag, tags_in, tag_at, node_of, nodes_of, nodes_in}
use Rattle.tags.specs.declared.Tag.{Tag}
use Rattle.tags.specs.declared.Tag.TheVariants.{Opens as opens, Closes as closes}
use Rattle.tags.proofs.ClassLaws.{digit-class, class-digit}

at_drop : (s : List ℕ) (i k : ℕ) → get_or (drop (suc i) s) k 0 ≡ get_or s (i + 1 + k) 0
at_drop s i k = get_or-drop (suc i) s k 0 ∙ ap (λ (n : ℕ). get_or s n 0) (omega arith)

pub from-here : (s : List ℕ) (i : ℕ) → i < length s → tags_in (drop i s) ≡ and_tag (eqb (get_or s i 0) 60) (tag_at s i) (tags_in (drop (i + 1) s))
unfolding tags_in
from-here s i h =
    let a : get_or (drop (suc i) s) 0 0 ≡ get_or s (i + 1) 0 = at_drop s i 0 ∙ ap (λ (n : ℕ). get_or s n 0) (omega arith) in
    let b : get_or (drop (suc i) s) 1 0 ≡ get_or s (i + 2) 0 = at_drop s i 1 ∙ ap (λ (n : ℕ). get_or s n 0) (omega arith) in
    rw (drop-cons s i 0 h, a, b)
    (ap (λ (n : ℕ). and_tag (eqb (get_or s i 0) 60) (tag_at s i) (tags_in (drop n s))) (sym (add-one i)))

pub nodes-less : (s : List ℕ) (i : ℕ) → i < length s → get_or s i 0 ≡ 60 → nodes_in (drop i s) ≡ node_of (tag_at s i) ∷ nodes_in (drop (i + 1) s)
unfolding nodes_in nodes_of
nodes-less s i h e =
    ap nodes_of (from-here s i h ∙ ap (λ (b : Bool). and_tag b (tag_at s i) (tags_in (drop (i + 1) s))) (eq-eqb _ 60 e))

pub nodes-other : (s : List ℕ) (i : ℕ) → i < length s → (get_or s i 0 ≡ 60 → ⊥) → nodes_in (drop i s) ≡ nodes_in (drop (i + 1) s)
unfolding nodes_in
nodes-other s i h e =
    ap nodes_of (from-here s i h ∙ ap (λ (b : Bool). and_tag b (tag_at s i) (tags_in (drop (i + 1) s))) (ne_eqb _ 60 e))

pub nodes-end : (s : List ℕ) (i : ℕ) → length s ≤ i → nodes_in (drop i s) ≡ 0 ∷ []
unfolding nodes_in nodes_of tags_in
nodes-end s i h = rw (drop_of_length-le s {i = i} h)

pub digit-small : (b : ℕ) → class_of b ≡ 1 → (digit_of b ≡ b - 48) × (b - 48 < 10) × (48 ≤ b)
unfolding digit_of
digit-small b e = let k = class-digit b e in (rw e, omega arith, k.0)

pub no_digit : (b : ℕ) → (class_of b ≡ 1 → ⊥) → digit_of b ≡ 0
unfolding digit_of
no_digit b h = rw (ne_eqb (class_of b) 1 h)

-- ---- the tag by the bytes after its `<`

digit-of : (d : ℕ) → d < 10 → digit_of (48 + d) ≡ d
unfolding digit_of
digit-of d h = rw (digit-class d h) (omega arith)

pub opens-short : (n : ℕ) → n < 10 → tag_before (48 + n) 62 ≡ opens n
unfolding tag_before
opens-short n h = rw (ne_eqb (48 + n) 47 (λ e. omega arith), digit-of n h)

pub opens-two : (d e : ℕ) → d < 10 → e < 10 → tag_before (48 + d) (48 + e) ≡ opens (10 * d + e)
unfolding tag_before
opens-two d e h k =
    rw (ne_eqb (48 + d) 47 (λ z. omega arith), ne_eqb (48 + e) 62 (λ z. omega arith), digit-of d h, digit-of e k)

pub closes-is : (b : ℕ) → tag_before 47 b ≡ closes
unfolding tag_before
closes-is b = refl

-- ---- the nodes past bytes that are no `<`, and past a tag

pub nodes-on : (s : List ℕ) (i j : ℕ) → j ≡ i + 1 → i < length s → (get_or s i 0 ≡ 60 → ⊥) → nodes_in (drop i s) ≡ nodes_in (drop j s)
nodes-on s i j e h k = nodes-other s i h k ∙ ap (λ (n : ℕ). nodes_in (drop n s)) (sym e)

pub nodes-tag : (s : List ℕ) (i j : ℕ) (t : Tag) → j ≡ i + 1 → i < length s → get_or s i 0 ≡ 60 → tag_at s i ≡ t
    → nodes_in (drop i s) ≡ node_of t ∷ nodes_in (drop j s)
nodes-tag s i j t e h k f =
    nodes-less s i h k ∙ ap (λ (t : Tag). node_of t ∷ nodes_in (drop (i + 1) s)) f ∙ ap (λ (n : ℕ). node_of t ∷ nodes_in (drop n s)) (sym e)

module _ (s : List ℕ) (at : ℕ) (less : get_or s at 0 ≡ 60) where
  pub short-nodes : (d : ℕ) → d < 10 → at + 2 < length s → get_or s (at + 1) 0 ≡ 48 + d → get_or s (at + 2) 0 ≡ 62
      → nodes_in (drop at s) ≡ d ∷ nodes_in (drop (at + 3) s)
  short-nodes d h l e f =
      let t : tag_at s at ≡ opens d = rw (e, f) (opens-short d h) in
      nodes-tag s at (at + 1) (opens d) refl (omega arith) less t
      ∙ ap (λ (x : List ℕ). d ∷ x)
      (nodes-on s (at + 1) (at + 2) (omega arith) (omega arith) (λ z. omega arith) ∙ nodes-on s (at + 2) (at + 3) (omega arith) l (λ z. omega arith))

  pub long-nodes : (d e : ℕ) → d < 10 → e < 10 → at + 3 < length s → get_or s (at + 1) 0 ≡ 48 + d → get_or s (at + 2) 0 ≡ 48 + e → get_or s (at + 3) 0 ≡ 62
      → nodes_in (drop at s) ≡ (10 * d + e) ∷ nodes_in (drop (at + 4) s)
  long-nodes d e h k l f g m =
      let t : tag_at s at ≡ opens (10 * d + e) = rw (f, g) (opens-two d e h k) in
      nodes-tag s at (at + 1) (opens (10 * d + e)) refl (omega arith) less t
      ∙ ap (λ (x : List ℕ). (10 * d + e) ∷ x)
      (nodes-on s (at + 1) (at + 2) (omega arith) (omega arith) (λ z. omega arith) ∙ nodes-on s (at + 2) (at + 3) (omega arith) (omega arith) (λ z. omega arith)
      ∙ nodes-on s (at + 3) (at + 4) (omega arith) l (λ z. omega arith))

  module _ (slash : get_or s (at + 1) 0 ≡ 47) where
    closes_at : tag_at s at ≡ closes
    closes_at = rw slash (closes-is (get_or s (at + 2) 0))

    pub short-close-nodes : (d : ℕ) → d < 10 → at + 3 < length s → get_or s (at + 2) 0 ≡ 48 + d → get_or s (at + 3) 0 ≡ 62
        → nodes_in (drop at s) ≡ 0 ∷ nodes_in (drop (at + 4) s)
    short-close-nodes d h l e f =
        nodes-tag s at (at + 1) closes refl (omega arith) less closes_at
        ∙ ap (λ (x : List ℕ). 0 ∷ x)
        (nodes-on s (at + 1) (at + 2) (omega arith) (omega arith) (λ z. omega arith) ∙ nodes-on s (at + 2) (at + 3) (omega arith) (omega arith) (λ z. omega arith)
        ∙ nodes-on s (at + 3) (at + 4) (omega arith) l (λ z. omega arith))

    pub long-close-nodes : (d e : ℕ) → d < 10 → e < 10 → at + 4 < length s → get_or s (at + 2) 0 ≡ 48 + d → get_or s (at + 3) 0 ≡ 48 + e → get_or s (at + 4) 0 ≡ 62
        → nodes_in (drop at s) ≡ 0 ∷ nodes_in (drop (at + 5) s)
    long-close-nodes d e h k l f g m =
        nodes-tag s at (at + 1) closes refl (omega arith) less closes_at
        ∙ ap (λ (x : List ℕ). 0 ∷ x)
        (nodes-on s (at + 1) (at + 2) (omega arith) (omega arith) (λ z. omega arith) ∙ nodes-on s (at + 2) (at + 3) (omega arith) (omega arith) (λ z. omega arith)
        ∙ nodes-on s (at + 3) (at + 4) (omega arith) (omega arith) (λ z. omega arith) ∙ nodes-on s (at + 4) (at + 5) (omega arith) l (λ z. omega arith))
