-- A text has one list of elements, the same as without its spaces; its tree's nodes are those of its tags.
-- Assumes nothing.
use Prim.Native.Nat.{ℕ, zero, suc, ◌+◌, ◌/◌, ◌%◌, ◌<◌}
use native.Mathlib.Omega.{arith}
use mathlib.Core.Path.{◌≡◌, refl, sym, ap, ◌∙◌}
use mathlib.Core.Bool.{Bool, true, false}
use mathlib.Core.List.{List, [], ◌∷◌, ◌++◌, append_assoc, append-nil}
use lib.Dec.{ltb}
use lib.ListN.{get_or}
use borrow.Author.Tests.{ne_eqb, ltb-true}
use Rattle.tags.specs.Classes.{class_of}
use Rattle.grammar.specs.Grammar.{Elements, empty, element, Spaces, none, more, digits_if, written, open_tag, close_tag, Writes, blank, tagged, unless_space, without_spaces, tree_of}
use Rattle.nodes.specs.Preorder.{preorder}
use Rattle.tags.specs.Tags.{tag_before, tags_in, nodes_of, nodes_in}
use Rattle.tags.specs.declared.Tag.{Tag}
use Rattle.tags.specs.declared.Tag.TheVariants.{Opens as opens, Closes as closes}
use Rattle.tags.proofs.ClassLaws.{digit-class, space-less}
use Rattle.tags.proofs.Listed.{opens-short, opens-two, closes-is}
use Rattle.markup.specs.Checks.{grow, runs_of, elements_of}

-- ---- the tags of a run's text

no_less : (b : ℕ) (s : List ℕ) → (b ≡ 60 → ⊥) → tags_in (b ∷ s) ≡ tags_in s
unfolding tags_in
no_less b s h = rw (ne_eqb b 60 h)

less : (s : List ℕ) → tags_in (60 ∷ s) ≡ tag_before (get_or s 0 0) (get_or s 1 0) ∷ tags_in s
unfolding tags_in
less s = refl

spaces-tags : {s : List ℕ} (y : List ℕ) → Spaces s → tags_in (s ++ y) ≡ tags_in y
spaces-tags y none = refl
spaces-tags y (more b {s} e h) = no_less b (s ++ y) (space-less b e) ∙ spaces-tags y h

opens-long : (n : ℕ) → n < 100 → tag_before (48 + n / 10) (48 + n % 10) ≡ opens n
opens-long n h = opens-two (n / 10) (n % 10) (omega arith) (omega arith) ∙ ap opens (omega arith)

open-tags : (n : ℕ) (y : List ℕ) → n < 100 → tags_in (open_tag n ++ y) ≡ opens n ∷ tags_in y
unfolding open_tag written
open-tags n y h = go (ltb n 10) refl
  where
    go : (t : Bool) → ltb n 10 ≡ t → tags_in (60 ∷ ((digits_if t n ++ (62 ∷ [])) ++ y)) ≡ opens n ∷ tags_in y
    go true e =
        let k = ltb-true n 10 e in
        less _ ∙ ap (λ (t : Tag). t ∷ tags_in ((48 + n) ∷ 62 ∷ y)) (opens-short n k)
        ∙ ap (λ (ts : List Tag). opens n ∷ ts) (no_less (48 + n) (62 ∷ y) (λ z. omega arith) ∙ no_less 62 y (λ z. omega arith))
    go false e =
        less _ ∙ ap (λ (t : Tag). t ∷ tags_in ((48 + n / 10) ∷ (48 + n % 10) ∷ 62 ∷ y)) (opens-long n h)
        ∙ ap (λ (ts : List Tag). opens n ∷ ts)
        (no_less (48 + n / 10) ((48 + n % 10) ∷ 62 ∷ y) (λ z. omega arith) ∙ no_less (48 + n % 10) (62 ∷ y) (λ z. omega arith) ∙ no_less 62 y (λ z. omega arith))

close-tags : (n : ℕ) (y : List ℕ) → n < 100 → tags_in (close_tag n ++ y) ≡ closes ∷ tags_in y
unfolding close_tag written
close-tags n y h = go (ltb n 10) refl
  where
    go : (t : Bool) → ltb n 10 ≡ t → tags_in (60 ∷ 47 ∷ ((digits_if t n ++ (62 ∷ [])) ++ y)) ≡ closes ∷ tags_in y
    go true e =
        let k = ltb-true n 10 e in
        less _ ∙ ap (λ (t : Tag). t ∷ tags_in (47 ∷ (48 + n) ∷ 62 ∷ y)) (closes-is (48 + n))
        ∙ ap (λ (ts : List Tag). closes ∷ ts)
        (no_less 47 ((48 + n) ∷ 62 ∷ y) (λ z. omega arith) ∙ no_less (48 + n) (62 ∷ y) (λ z. omega arith) ∙ no_less 62 y (λ z. omega arith))
    go false e =
        less _ ∙ ap (λ (t : Tag). t ∷ tags_in (47 ∷ (48 + n / 10) ∷ (48 + n % 10) ∷ 62 ∷ y)) (closes-is (48 + n / 10))
        ∙ ap (λ (ts : List Tag). closes ∷ ts)
        (no_less 47 ((48 + n / 10) ∷ (48 + n % 10) ∷ 62 ∷ y) (λ z. omega arith) ∙ no_less (48 + n / 10) ((48 + n % 10) ∷ 62 ∷ y) (λ z. omega arith)
        ∙ no_less (48 + n % 10) (62 ∷ y) (λ z. omega arith) ∙ no_less 62 y (λ z. omega arith))

-- the tags that a run has
unfoldable pub tags_of : Elements → List Tag
tags_of empty = []
tags_of (element n inside after) = opens n ∷ (tags_of inside ++ (closes ∷ tags_of after))

run-tags : {x : List ℕ} {r : Elements} (y : List ℕ) → Writes x r → tags_in (x ++ y) ≡ tags_of r ++ tags_in y
unfolding tags_of
run-tags y (blank h) = spaces-tags y h
run-tags y (tagged {s = s} {x = x} {y = z} n {inside = i} {after = a} h k wx wz) =
    simp append_assoc
    (spaces-tags _ h ∙ open-tags n _ k
    ∙ ap (λ (ts : List Tag). opens n ∷ ts)
    (run-tags (close_tag n ++ (z ++ y)) wx
    ∙ ap (λ (ts : List Tag). tags_of i ++ ts) (close-tags n (z ++ y) k ∙ ap (λ (ts : List Tag). closes ∷ ts) (run-tags y wz))))

-- the tags of a text are those of its run
pub text-tags : {s : List ℕ} {r : Elements} → Writes s r → tags_in s ≡ tags_of r
unfolding tags_in
text-tags {s} {r} w = rw (append-nil s, append-nil (tags_of r)) at (run-tags [] w)

-- ---- the elements, found from the tags

runs-of : (r : Elements) (us : List Tag) (rs : List Elements) → runs_of us ≡ empty ∷ rs → runs_of (tags_of r ++ us) ≡ r ∷ rs
unfolding runs_of tags_of
runs-of empty us rs e = e
runs-of (element n i a) us rs e =
    let h : runs_of ((tags_of i ++ (closes ∷ tags_of a)) ++ us) ≡ i ∷ a ∷ rs =
    rw append_assoc (runs-of i (closes ∷ (tags_of a ++ us)) (a ∷ rs) (ap (λ (l : List Elements). empty ∷ l) (runs-of a us rs e))) in
    ap (grow n) h

pub text-elements : {s : List ℕ} {r : Elements} → Writes s r → elements_of s ≡ r
unfolding elements_of runs_of
text-elements {s} {r} w =
    let a : runs_of (tags_of r) ≡ r ∷ [] = rw (append-nil (tags_of r)) at (runs-of r [] [] refl) in
    rw (text-tags w, a)

-- a text has one list of elements
pub unambiguous : {s : List ℕ} {r q : Elements} → Writes s r → Writes s q → r ≡ q
unambiguous w v = sym (text-elements w) ∙ text-elements v

-- ---- spaces do not matter

without-append : (x y : List ℕ) → without_spaces (x ++ y) ≡ without_spaces x ++ without_spaces y
unfolding without_spaces
without-append [] y = refl
without-append (b ∷ x) y = go (class_of b) (without-append x y)
  where
    go : (c : ℕ) → without_spaces (x ++ y) ≡ without_spaces x ++ without_spaces y → unless_space c b (without_spaces (x ++ y)) ≡ unless_space c b (without_spaces x) ++ without_spaces y
    go zero e = e
    go (suc c) e = ap (λ (l : List ℕ). b ∷ l) e

pub without-spaces : {s : List ℕ} → Spaces s → without_spaces s ≡ []
unfolding without_spaces
without-spaces none = refl
without-spaces (more b {s} e h) = rw (e, without-spaces h)

kept : (b c : ℕ) (s : List ℕ) → class_of b ≡ suc c → without_spaces (b ∷ s) ≡ b ∷ without_spaces s
unfolding without_spaces
kept b c s e = rw e

end_kept : without_spaces (62 ∷ []) ≡ 62 ∷ []
unfolding without_spaces class_of
end_kept = refl

written-kept : (n : ℕ) → n < 100 → without_spaces (written n ++ (62 ∷ [])) ≡ written n ++ (62 ∷ [])
unfolding written
written-kept n h = go (ltb n 10) refl
  where
    go : (t : Bool) → ltb n 10 ≡ t → without_spaces (digits_if t n ++ (62 ∷ [])) ≡ digits_if t n ++ (62 ∷ [])
    go true e = kept (48 + n) 0 (62 ∷ []) (digit-class n (ltb-true n 10 e)) ∙ ap (λ (l : List ℕ). (48 + n) ∷ l) end_kept
    go false e =
        kept (48 + n / 10) 0 ((48 + n % 10) ∷ 62 ∷ []) (digit-class (n / 10) (omega arith))
        ∙ ap (λ (l : List ℕ). (48 + n / 10) ∷ l)
        (kept (48 + n % 10) 0 (62 ∷ []) (digit-class (n % 10) (omega arith)) ∙ ap (λ (l : List ℕ). (48 + n % 10) ∷ l) end_kept)

open_kept : (n : ℕ) → n < 100 → without_spaces (open_tag n) ≡ open_tag n
unfolding open_tag class_of
open_kept n h = kept 60 1 (written n ++ (62 ∷ [])) refl ∙ ap (λ (l : List ℕ). 60 ∷ l) (written-kept n h)

close-kept : (n : ℕ) → n < 100 → without_spaces (close_tag n) ≡ close_tag n
unfolding close_tag class_of
close-kept n h =
    kept 60 1 (47 ∷ (written n ++ (62 ∷ []))) refl
    ∙ ap (λ (l : List ℕ). 60 ∷ l) (kept 47 2 (written n ++ (62 ∷ [])) refl ∙ ap (λ (l : List ℕ). 47 ∷ l) (written-kept n h))

-- without its spaces a text writes the same run
pub bare : {s : List ℕ} {r : Elements} → Writes s r → Writes (without_spaces s) r
bare (blank h) = rw (without-spaces h) (blank none)
bare (tagged {s = s} {x = x} {y = y} n h k wx wy) =
    simp (without-append, without-spaces h, open_kept n k, close-kept n k) (tagged n none k (bare wx) (bare wy))

-- texts that differ only in spaces write one run, and so become one tree
pub same-run : {s u : List ℕ} {r q : Elements} → Writes s r → Writes u q → without_spaces s ≡ without_spaces u → r ≡ q
same-run w v e = unambiguous (rw e at (bare w)) (bare v)

-- ---- the nodes of the tree

nodes-of : (r : Elements) (us : List Tag) (ns : List ℕ) → nodes_of us ≡ 0 ∷ ns → nodes_of (tags_of r ++ us) ≡ preorder (tree_of r) ++ ns
unfolding nodes_of tags_of tree_of preorder
nodes-of empty us ns e = e
nodes-of (element n i a) us ns e =
    let h : nodes_of ((tags_of i ++ (closes ∷ tags_of a)) ++ us) ≡ preorder (tree_of i) ++ (preorder (tree_of a) ++ ns) =
    rw append_assoc (nodes-of i (closes ∷ (tags_of a ++ us)) (preorder (tree_of a) ++ ns) (ap (λ (l : List ℕ). 0 ∷ l) (nodes-of a us ns e))) in
    ap (λ (l : List ℕ). n ∷ l) (h ∙ sym (append_assoc (preorder (tree_of i)) (preorder (tree_of a)) ns))

-- the nodes of a text's tags are those of its tree, in preorder
pub text-nodes : {s : List ℕ} {r : Elements} → Writes s r → nodes_in s ≡ preorder (tree_of r)
unfolding nodes_in nodes_of
text-nodes {s} {r} w =
    ap nodes_of (text-tags w) ∙ (rw (append-nil (tags_of r), append-nil (preorder (tree_of r))) at (nodes-of r [] [] refl))
