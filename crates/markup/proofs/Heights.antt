-- Lines 10 to 12 of the nodes of a text, and refusal 19: where 19 passes, only 12 can refuse the nodes, since they write the text's tree; and lines
-- 10 and 11 pass them only if 19 does, since each tag of no branch symbol leaves a branch too few.
-- Assumes nothing.
use Rattle.std.proofs.Common.{Ok}
use Prim.Native.Nat.{ℕ, zero, suc, ◌+◌, ◌*◌, ◌<◌, ◌≤◌}
use native.Mathlib.Omega.{arith}
use mathlib.Core.Path.{◌≡◌, refl, sym, ap, ◌∙◌}
use mathlib.Core.Bool.{Bool, true, false, not, ◌&&◌}
use mathlib.Core.List.{List, [], ◌∷◌, ◌++◌, append-nil}
use lib.Dec.{eqb}
use lib.ListN.{length, get_or, drop, length-drop}
use lib.Arith.{lt_of_le-ne}
use borrow.Author.Tests.{not-false, eqb-true, eqb-false}
use Rattle.blocks.proofs.Stores.{first}
use Rattle.blocks.specs.Search.{lowest}
use Rattle.blocks.proofs.Laws.{lowest-nothing, find-nothing}
use Rattle.relation.specs.Sets.{member}
use Rattle.model.specs.Trees.{size}
use Rattle.model.specs.declared.Signature.{Signature}
use Rattle.refusal.specs.Checks.{◌and_then◌, refuse_if, refuse_at}
use Rattle.refusal.specs.declared.Fault.{Fault}
use Rattle.refusal.proofs.Passed.{clash, both-passed, if-passed, at-passed}
use Rattle.nodes.specs.Preorder.{preorder, Shaped, Below}
use Rattle.nodes.specs.Nodes as tree
use Rattle.nodes.proofs.Laws.{below, parts-tree}
use Rattle.nodes.proofs.Standing.{forest-preorder, size-preorder}
use Rattle.grammar.specs.Grammar.{Elements, empty, element, Writes, tree_of, elements_in}
use Rattle.tags.specs.Tags.{and_tag, tags_in, tag_at, no_branch, bad_tag, nodes_in}
use Rattle.markup.proofs.Unambiguous.{tags_of, text-tags, text-nodes}
use Rattle.markup.specs.Checks.{tag_check, Signed}
use Rattle.tags.specs.declared.Tag.{Tag}
use Rattle.tags.specs.declared.Tag.TheVariants.{Closes as closes}
use Rattle.tags.proofs.Listed.{from-here}

-- each opening tag is of a branch symbol
Fine : ℕ → List Tag → Type 0
Fine b [] = Unit {0}
Fine b (t ∷ ts) = (no_branch b t ≡ false) × Fine b ts

fine-left : (b : ℕ) (ts us : List Tag) → Fine b (ts ++ us) → Fine b ts
unfolding Fine
fine-left b [] us h = tt
fine-left b (t ∷ ts) us h = (h.0, fine-left b ts us h.1)

fine-right : (b : ℕ) (ts us : List Tag) → Fine b (ts ++ us) → Fine b us
unfolding Fine
fine-right b [] us h = h
fine-right b (t ∷ ts) us h = fine-right b ts us h.1

tags-nil : tags_in [] ≡ []
unfolding tags_in
tags-nil = refl

fine-from : (b : ℕ) (x s : List ℕ) (i : ℕ) → drop i s ≡ x → ((k : ℕ) → k < length s → bad_tag b s k ≡ false) → Fine b (tags_in x)
unfolding Fine bad_tag
fine-from b [] s i e h = rw tags-nil tt
fine-from b (c ∷ x) s i e h =
    let f = first s i c x e in
    let more = fine-from b x s (i + 1) f.2 h in
    let here : tags_in (c ∷ x) ≡ and_tag (eqb (get_or s i 0) 60) (tag_at s i) (tags_in (drop (i + 1) s)) = ap tags_in (sym e) ∙ from-here s i f.0 in
    rw here (go (eqb (get_or s i 0) 60) (h i f.0) (rw (← f.2) at more))
  where
    go : (t : Bool) → (t && no_branch b (tag_at s i)) ≡ false → Fine b (tags_in (drop (i + 1) s)) → Fine b (and_tag t (tag_at s i) (tags_in (drop (i + 1) s)))
    go true k m = (k, m)
    go false k m = m

shaped : (b : ℕ) (r : Elements) → member b 0 ≡ false → Fine b (tags_of r) → Shaped b (tree_of r)
unfolding Fine tags_of tree_of Shaped
shaped b empty z h = z
shaped b (element n i a) z h = (
  not-false (member b n) h.0,
  shaped b i z (fine-left b (tags_of i) (closes ∷ tags_of a) h.1),
  shaped b a z (fine-right b (tags_of i) (closes ∷ tags_of a) h.1).1,
)

below_both : (m : ℕ) (x y : List ℕ) → Below m x → Below m y → Below m (x ++ y)
unfolding Below
below_both m [] y h k = k
below_both m (n ∷ x) y h k = (h.0, below_both m x y h.1 k)

small : (m b : ℕ) (r : Elements) → 0 < m → ((n : ℕ) → member b n ≡ true → n < m) → Fine b (tags_of r) → Below m (preorder (tree_of r))
unfolding Fine tags_of tree_of preorder Below
small m b empty z p h = (z, tt)
small m b (element n i a) z p h = (
  p n (not-false (member b n) h.0),
  below_both m (preorder (tree_of i)) (preorder (tree_of a))
      (small m b i z p (fine-left b (tags_of i) (closes ∷ tags_of a) h.1))
      (small m b a z p (fine-right b (tags_of i) (closes ∷ tags_of a) h.1).1),
)

tag-passed : (sg : Signature) (s : List ℕ) → tag_check sg s ≡ Ok tt → (member sg.branches 0 ≡ false) × Fine sg.branches (tags_in s)
unfolding tag_check
tag-passed sg s e =
    let b = sg.branches in
    let both = both-passed (refuse_if (member b 0) Fault.Tag 2 0) (refuse_at Fault.Tag 2 (lowest (bad_tag b s) (length s))) e in
    let none = at-passed (lowest (bad_tag b s) (length s)) Fault.Tag 2 both.1 in
    (if-passed (member b 0) Fault.Tag 2 0 both.0, fine-from b s s 0 refl (λ k l. lowest-nothing (bad_tag b s) 0 (length s) none k (omega arith) (omega arith)))

-- ---- 19 passes where every tag is of a branch symbol

fine-none : (b : ℕ) (x s : List ℕ) (i : ℕ) → drop i s ≡ x → Fine b (tags_in x) → (k : ℕ) → i ≤ k → k < length s → bad_tag b s k ≡ false
unfolding Fine bad_tag
fine-none b [] s i e h k lo hi = absurd (omega (arith, sym (length-drop i s) ∙ ap length e))
fine-none b (c ∷ x) s i e h k lo hi =
    let f = first s i c x e in
    let here : tags_in (c ∷ x) ≡ and_tag (eqb (get_or s i 0) 60) (tag_at s i) (tags_in (drop (i + 1) s)) = ap tags_in (sym e) ∙ from-here s i f.0 in
    let parts = fine-and b (eqb (get_or s i 0) 60) (tag_at s i) (tags_in (drop (i + 1) s)) (rw here at h) in
    go (eqb i k) refl parts.0 (fine-none b x s (i + 1) f.2 (rw f.2 at parts.1) k)
  where
    fine-and : (b : ℕ) (t : Bool) (g : Tag) (ts : List Tag) → Fine b (and_tag t g ts) → ((t && no_branch b g) ≡ false) × Fine b ts
    fine-and b true g ts h = h
    fine-and b false g ts h = (refl, h)

    go : (t : Bool) → eqb i k ≡ t → (eqb (get_or s i 0) 60 && no_branch b (tag_at s i)) ≡ false
        → (i + 1 ≤ k → k < length s → bad_tag b s k ≡ false) → bad_tag b s k ≡ false
    go true e h later = rw (eqb-true i k e) at h
    go false e h later = let l = lt_of_le-ne lo (eqb-false i k e) in later (omega arith) hi

tags-pass : (sg : Signature) (s : List ℕ) → member sg.branches 0 ≡ false → Fine sg.branches (tags_in s) → tag_check sg s ≡ Ok tt
unfolding tag_check
tags-pass sg s z h =
    rw (z, find-nothing (bad_tag sg.branches s) 0 (length s) (λ k lo hi. fine-none sg.branches s s 0 refl h k lo (omega arith)))

-- ---- the branches of a list

abbrev one_if : Bool → ℕ
one_if true = 1
one_if false = 0

branches : ℕ → List ℕ → ℕ
branches b [] = 0
branches b (σ ∷ s) = one_if (member b σ) + branches b s

branches-append : (b : ℕ) (x y : List ℕ) → branches b (x ++ y) ≡ branches b x + branches b y
unfolding branches
branches-append b [] y = omega arith
branches-append b (σ ∷ x) y = let e = branches-append b x y in omega arith

-- a list that closes has one node more than twice its branches
parts-count : (b parts i : ℕ) (s : List ℕ) → tree.parts_from b parts i s ≡ Ok tt → parts + 2 * branches b s ≡ length s
unfolding tree.parts_from branches
parts-count b zero i [] e = omega arith
parts-count b (suc n) i [] e = clash (cc)
parts-count b zero i (σ ∷ s) e = clash (cc)
parts-count b (suc n) i (σ ∷ s) e = go (member b σ) (λ k f. parts-count b k (i + 1) s f) e
  where
    go : (t : Bool) → ((k : ℕ) → tree.parts_from b k (i + 1) s ≡ Ok tt → k + 2 * branches b s ≡ length s)
        → tree.parts_from b (tree.opened t n) (i + 1) s ≡ Ok tt → suc n + 2 * (one_if t + branches b s) ≡ suc (length s)
    go true h f = let k = h (suc (suc n)) f in omega arith
    go false h f = let k = h n f in omega arith

-- a text's tree has one node more than twice its elements
pub size-elements : (r : Elements) → size (tree_of r) ≡ suc (2 * elements_in r)
unfolding elements_in tree_of
size-elements empty = refl
size-elements (element n i a) = let x = size-elements i in let y = size-elements a in omega arith

fine-both : (b : ℕ) (ts us : List Tag) → Fine b ts → Fine b us → Fine b (ts ++ us)
unfolding Fine
fine-both b [] us h k = k
fine-both b (t ∷ ts) us h k = (h.0, fine-both b ts us h.1 k)

-- at most the elements are branches; where all are, every tag is of a branch symbol
counted : (b : ℕ) (r : Elements) → member b 0 ≡ false
    → (branches b (preorder (tree_of r)) ≤ elements_in r) × (elements_in r ≤ branches b (preorder (tree_of r)) → Fine b (tags_of r))
unfolding branches elements_in tree_of preorder tags_of Fine
counted b empty z = (rw z (omega arith), λ h. tt)
counted b (element n i a) z =
    let x = counted b i z in
    let y = counted b a z in
    let e = branches-append b (preorder (tree_of i)) (preorder (tree_of a)) in
    go (member b n) refl x y e
  where
    go : (t : Bool) → member b n ≡ t
        → (branches b (preorder (tree_of i)) ≤ elements_in i) × (elements_in i ≤ branches b (preorder (tree_of i)) → Fine b (tags_of i))
        → (branches b (preorder (tree_of a)) ≤ elements_in a) × (elements_in a ≤ branches b (preorder (tree_of a)) → Fine b (tags_of a))
        → branches b (preorder (tree_of i) ++ preorder (tree_of a)) ≡ branches b (preorder (tree_of i)) + branches b (preorder (tree_of a))
        → (one_if (member b n) + branches b (preorder (tree_of i) ++ preorder (tree_of a)) ≤ suc (elements_in i + elements_in a))
        × (suc (elements_in i + elements_in a) ≤ one_if (member b n) + branches b (preorder (tree_of i) ++ preorder (tree_of a))
        → (not (member b n) ≡ false) × Fine b (tags_of i ++ (closes ∷ tags_of a)))
    go true m x y e = (
      rw m (omega (arith, x.0, y.0)),
      λ h.
          let h' : suc (elements_in i + elements_in a) ≤ 1 + branches b (preorder (tree_of i) ++ preorder (tree_of a)) = rw m at h in
          (rw m, fine-both b (tags_of i) (closes ∷ tags_of a) (x.1 (omega (arith, x.0, y.0))) (refl, y.1 (omega (arith, x.0, y.0)))),
    )
    go false m x y e = (
      rw m (omega (arith, x.0, y.0)),
      λ h.
          let h' : suc (elements_in i + elements_in a) ≤ 0 + branches b (preorder (tree_of i) ++ preorder (tree_of a)) = rw m at h in
          absurd (omega (arith, x.0, y.0)),
    )

-- ---- a text, of a signature

module _ (sg : Signature) (s : List ℕ) (r : Elements) (w : Writes s r) (z : member sg.branches 0 ≡ false) where
  -- lines 10 and 11 pass the nodes only if 19 passes the text
  pub passed-tags : tree.nodes_check sg (nodes_in s) ≡ Ok tt → tag_check sg s ≡ Ok tt
  unfolding tree.nodes_check tree.shape_check
  passed-tags e =
      let b = sg.branches in
      let n = nodes_in s in
      let later = (both-passed (tree.symbols_check sg n) (tree.shape_check b n and_then tree.height_check (tree.tree_of b n)) e).1 in
      let shape = (both-passed (tree.shape_check b n) (tree.height_check (tree.tree_of b n)) later).0 in
      let count : 1 + 2 * branches b (preorder (tree_of r)) ≡ length (preorder (tree_of r)) = rw (text-nodes w) at (parts-count b 1 0 n shape) in
      let long = size-preorder (tree_of r) ∙ size-elements r in
      let fine = (counted b r z).1 (omega (arith, count, long)) in
      tags-pass sg s z (rw (text-tags w) fine)

  module _ (e : tag_check sg s ≡ Ok tt) where
    tags-fine : Fine sg.branches (tags_of r)
    tags-fine = rw (text-tags w) at (tag-passed sg s e).1

    tree-shaped : Shaped sg.branches (tree_of r)
    tree-shaped = shaped sg.branches r z tags-fine

    -- where 19 passes the text, its nodes write its tree
    pub tree_is : tree.tree_of sg.branches (nodes_in s) ≡ tree_of r
    unfolding tree.tree_of tree.forest
    tree_is =
        let t = tree_of r in
        let same : tree.forest sg.branches (preorder t) ≡ t ∷ [] = rw (← append-nil (preorder t)) (forest-preorder sg.branches t [] tree-shaped) in
        rw (text-nodes w, same)

    -- and lines 10 to 12 are line 12 of that tree
    pub only-height : Signed sg → tree.nodes_check sg (nodes_in s) ≡ tree.height_check (tree_of r)
    unfolding tree.nodes_check tree.shape_check tree.parts_from
    only-height p =
        let b = sg.branches in
        let t = tree_of r in
        let symbols : tree.symbols_check sg (nodes_in s) ≡ Ok tt = rw (text-nodes w) ((below sg (preorder t)).1 (small sg.symbols b r p.0 p.1 tags-fine)) in
        let parts : tree.parts_from b 1 0 (preorder t) ≡ Ok tt = rw (← append-nil (preorder t)) (parts-tree b 0 0 t [] tree-shaped) in
        let shape : tree.parts_from b 1 0 (nodes_in s) ≡ Ok tt = rw (text-nodes w) parts in
        rw (symbols, shape, tree_is)
