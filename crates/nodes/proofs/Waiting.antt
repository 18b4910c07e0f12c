-- Line 12 in one pass over the node list, by the depths of the parts that are still to come, the next one first.
-- Assumes nothing.
use Rattle.std.proofs.Common.{Ok}
use Prim.Native.Nat.{ℕ, zero, suc, ◌+◌, ◌-◌, ◌*◌, ◌/◌, ◌%◌, ◌≤◌, ◌<◌}
use native.Mathlib.Omega.{arith}
use native.Mathlib.Numerals.{add-one}
use mathlib.Core.Path.{◌≡◌, refl, ap, ◌∙◌}
use mathlib.Core.Bool.{Bool, true, false}
use mathlib.Core.List.{List, [], ◌∷◌}
use lib.ListN.{length, get_or, drop}
use lib.Dec.{eqb, ltb}
use borrow.Author.Tests.{lt-ltb, le-ltb, ltb-true, ltb-false, eq-eqb, ne_eqb, eqb-true, eqb-false}
use Rattle.relation.specs.Sets.{member}
use Rattle.model.specs.Trees.{Tree, leaf, node, size}
use Rattle.refusal.specs.Checks.{refused, Check}
use Rattle.refusal.specs.declared.Fault.{Fault}
use Rattle.model.specs.declared.Signature.{Signature}
use Rattle.nodes.specs.declared.Path.{Path}
use Rattle.nodes.specs.declared.Scan.{Scan}
use Rattle.nodes.specs.Preorder.{Stands, leaf_at, node_at}
use Rattle.nodes.specs.Scan.{nothing_read, path_of, pick_path, risen_from, descended_from, moved_by, path_after, scanned_of, scan_of, height_by}
use Rattle.nodes.proofs.Scanning.{first-stays, first-here, first-later}
use Rattle.nodes.specs.Nodes.{Depth, Next, Deep, onward, depth_of, refuse_deep, height_check}
use Rattle.nodes.proofs.Standing.{within}
use Rattle.nodes.proofs.Steps.{here}

-- the parts still to come after a node at depth d
abbrev pub coming : (branch : Bool) (d : ℕ) → List ℕ → List ℕ
coming true d ds = (d + 1) ∷ (d + 1) ∷ ds
coming false d ds = ds

-- refused at node i, or what follows
abbrev or_later : (deep : Bool) (i : ℕ) → Check → Check
or_later true i later = refused Fault.Height 1 i
or_later false i later = later

-- the rest of a list from node i on, where parts at these depths are still to come
unfoldable pub depths_from : (branches : ℕ) → List ℕ → (i : ℕ) → List ℕ → Check
depths_from b ds i [] = Ok tt
depths_from b [] i (σ ∷ s) = Ok tt
depths_from b (d ∷ ds) i (σ ∷ s) = or_later (eqb d 65) i (depths_from b (coming (member b σ) d ds) (i + 1) s)

-- a walk over the next part stops, or leaves what follows it
abbrev after_walk : Depth → Check → Check
after_walk (Deep i) later = refused Fault.Height 1 i
after_walk (Next n) later = later

after_both : (x y : Depth) (later : Check) → after_walk x (after_walk y later) ≡ after_walk (onward x y) later
after_both (Deep i) y later = refl
after_both (Next n) y later = refl

after_last : (x : Depth) → after_walk x (Ok tt) ≡ refuse_deep x
after_last (Deep i) = refl
after_last (Next n) = refl

module _ (b : ℕ) (s : List ℕ) (i d : ℕ) (ds : List ℕ) where
  pub too-deep : d ≡ 65 → i < length s → depths_from b (d ∷ ds) i (drop i s) ≡ refused Fault.Height 1 i
  unfolding depths_from
  too-deep e h = rw (here s i h, e)

  pub onto : (t : Bool) → (d ≡ 65 → ⊥) → i < length s → member b (get_or s i 0) ≡ t →
      depths_from b (d ∷ ds) i (drop i s) ≡ depths_from b (coming t d ds) (i + 1) (drop (i + 1) s)
  unfolding depths_from
  onto t f h e =
      ap (depths_from b (d ∷ ds) i) (here s i h)
      ∙ ap (λ (x : Bool). or_later x i (depths_from b (coming (member b (get_or s i 0)) d ds) (i + 1) (drop (i + 1) s))) (ne_eqb d 65 f)
      ∙ ap (λ (x : Bool). depths_from b (coming x d ds) (i + 1) (drop (i + 1) s)) e

-- a tree that stands at node i, at depth d, takes the first part away
walked : (b : ℕ) (s : List ℕ) (k d i : ℕ) (ds : List ℕ) (t : Tree) → d + k ≡ 65 → Stands b s i t →
    depths_from b (d ∷ ds) i (drop i s) ≡ after_walk (depth_of k i t) (depths_from b ds (i + size t) (drop (i + size t) s))
unfolding depth_of
walked b s zero d i ds t e h = too-deep b s i d ds (omega arith) (within h)
walked b s (suc k) d i ds (leaf _) e (leaf_at h m) = onto b s i d ds false (λ p. omega arith) h m
walked b s (suc k) d i ds (node _ l r) e (node_at h m left right) =
    let over : (i + 1 + size l) + size r ≡ i + size (node (get_or s i 0) l r) = omega arith in
    onto b s i d ds true (λ p. omega arith) h m
    ∙ walked b s k (d + 1) (i + 1) ((d + 1) ∷ ds) l (omega arith) left
    ∙ ap (after_walk (depth_of k (i + 1) l)) (walked b s k (d + 1) (i + 1 + size l) ds r (omega arith) right)
    ∙ after_both (depth_of k (i + 1) l) (depth_of k (i + 1 + size l) r) _
    ∙ ap (λ (n : ℕ). after_walk (depth_of (suc k) i (node (get_or s i 0) l r)) (depths_from b ds n (drop n s))) over

pub none_left : (b i : ℕ) (s : List ℕ) → depths_from b [] i s ≡ Ok tt
unfolding depths_from
none_left b i [] = refl
none_left b i (σ ∷ s) = refl

-- the whole tree is the one part at the start
pub height-walked : (b : ℕ) (s : List ℕ) (t : Tree) → Stands b s 0 t → depths_from b (0 ∷ []) 0 s ≡ height_check t
unfolding height_check
height-walked b s t h =
    walked b s 65 0 0 [] t refl h
    ∙ ap (after_walk (depth_of 65 0 t)) (none_left b (0 + size t) (drop (0 + size t) s))
    ∙ after_last (depth_of 65 0 t)

-- ---- the parts that wait, as the bits of a number

abbrev pick_list : Bool → List ℕ → List ℕ → List ℕ
pick_list true a b = a
pick_list false a b = b

abbrev with_if : Bool → ℕ → List ℕ → List ℕ
with_if true d ds = d ∷ ds
with_if false d ds = ds

-- from a depth up, the depths at which a right part waits
waits : (depth waiting : ℕ) → List ℕ
waits zero w = []
waits (suc d) w = with_if (eqb (w % 2) 1) (suc d) (waits d (w / 2))

-- the parts to come
to_come : Path → List ℕ
to_come p = pick_list (ltb 65 p.depth) [] (p.depth ∷ waits p.depth p.waiting)

next-come : (p : Path) → p.depth ≤ 65 → to_come p ≡ p.depth ∷ waits p.depth p.waiting
unfolding to_come
next-come p h = rw (le-ltb 65 p.depth h)

-- going up leaves those that wait
risen-waits : (d w : ℕ) → d ≤ 65 → to_come (risen_from d w) ≡ waits d w
unfolding risen_from waits to_come
risen-waits zero w h = refl
risen-waits (suc d) w h = go (w % 2) refl (risen-waits d (w / 2) (omega arith))
  where
    go : (r : ℕ) → w % 2 ≡ r → to_come (risen_from d (w / 2)) ≡ waits d (w / 2)
        → to_come (pick_path (eqb r 1) (path_of (suc d) (w - 1)) (risen_from d (w / 2))) ≡ with_if (eqb r 1) (suc d) (waits d (w / 2))
    go zero e ih = ih
    go (suc zero) e ih =
        let low : (w - 1) % 2 ≡ 0 = omega arith in
        let half : (w - 1) / 2 ≡ w / 2 = omega arith in
        next-come (path_of (suc d) (w - 1)) h ∙ rw (low, half) refl
    go (suc (suc r)) e ih = absurd (omega arith)

-- going down, one more waits
descended-waits : (d w : ℕ) → waits (d + 1) (2 * w + 1) ≡ (d + 1) ∷ waits d w
unfolding waits
descended-waits d w =
    let low : (2 * w + 1) % 2 ≡ 1 = omega arith in
    let half : (2 * w + 1) / 2 ≡ w = omega arith in
    rw (add-one d) (rw (low, half) refl)

-- what is too deep is refused, whatever waits
deep-any : (b i : ℕ) (ds es s : List ℕ) → depths_from b (65 ∷ ds) i s ≡ depths_from b (65 ∷ es) i s
unfolding depths_from
deep-any b i ds es [] = refl
deep-any b i ds es (σ ∷ s) = refl

module _ (sg : Signature) where
  height-found : (i : ℕ) (s : List ℕ) (scan : Scan) → scan.high ≡ i → i < scan.nodes → height_by (scan_of sg scan s) ≡ refused Fault.Height 1 i
  unfolding height_by scan_of scanned_of
  height-found i [] scan e h = rw (e, lt-ltb i scan.nodes h)
  height-found i (σ ∷ s) scan e h = height-found i s (scanned_of sg scan σ) (rw e (first-stays i scan.nodes _ h)) (omega arith)

  -- a node at depth 64 or less
  moved-comes : (p : Path) (branch : Bool) (i : ℕ) (s : List ℕ) → p.depth ≤ 64
      → depths_from sg.branches (to_come (moved_by branch p)) i s ≡ depths_from sg.branches (coming branch p.depth (waits p.depth p.waiting)) i s
  unfolding descended_from
  moved-comes p false i s h = rw (risen-waits p.depth p.waiting (omega arith))
  moved-comes p true i s h = go (eqb p.depth 64) refl
    where
      go : (t : Bool) → eqb p.depth 64 ≡ t
          → depths_from sg.branches (to_come (pick_path t (path_of 65 0) (path_of (p.depth + 1) (2 * p.waiting + 1)))) i s
          ≡ depths_from sg.branches ((p.depth + 1) ∷ (p.depth + 1) ∷ waits p.depth p.waiting) i s
      go true e =
          let last : p.depth + 1 ≡ 65 = omega (arith, eqb-true p.depth 64 e) in
          rw (last, next-come (path_of 65 0) (omega arith)) (deep-any sg.branches i _ _ s)
      go false e =
          rw (next-come (path_of (p.depth + 1) (2 * p.waiting + 1)) (omega arith), descended-waits p.depth p.waiting) refl

  HeightFrom : List ℕ → Type 0
  HeightFrom s = (scan : Scan) → scan.high ≡ scan.nodes
      → height_by (scan_of sg scan s) ≡ depths_from sg.branches (to_come scan.path) scan.nodes s

  module _ (σ : ℕ) (s : List ℕ) (on : HeightFrom s) (scan : Scan) (h : scan.high ≡ scan.nodes) where
    abbrev p : Path
    p = scan.path

    abbrev m : Bool
    m = member sg.branches σ

    -- the next nodes, where this one is not too deep
    onwards : (p.depth ≡ 65 → ⊥) → (q : Path) → path_after p m ≡ q
        → height_by (scan_of sg scan (σ ∷ s)) ≡ depths_from sg.branches (to_come q) (scan.nodes + 1) s
    unfolding HeightFrom scan_of scanned_of
    onwards n q e = on (scanned_of sg scan σ) (first-later _ _ _ (ne_eqb p.depth 65 n) h) ∙ ap (λ (x : Path). depths_from sg.branches (to_come x) (scan.nodes + 1) s) e

    low_step : ltb 64 p.depth ≡ false → height_by (scan_of sg scan (σ ∷ s)) ≡ depths_from sg.branches (to_come p) scan.nodes (σ ∷ s)
    unfolding path_after depths_from
    low_step e =
        let most = ltb-false 64 p.depth e in
        onwards (λ d. omega (arith, most)) (moved_by m p) (rw e refl) ∙ moved-comes p m (scan.nodes + 1) s most
        ∙ rw (next-come p (omega arith), ne_eqb p.depth 65 (λ d. omega (arith, most))) refl

    deep_step : p.depth ≡ 65 → height_by (scan_of sg scan (σ ∷ s)) ≡ depths_from sg.branches (to_come p) scan.nodes (σ ∷ s)
    unfolding depths_from scan_of scanned_of
    deep_step e =
        height-found scan.nodes s (scanned_of sg scan σ) (first-here _ _ _ (eq-eqb p.depth 65 e) ∙ h) (omega arith)
        ∙ rw (next-come p (omega arith), eq-eqb p.depth 65 e) refl

    closed-step : 65 < p.depth → height_by (scan_of sg scan (σ ∷ s)) ≡ depths_from sg.branches (to_come p) scan.nodes (σ ∷ s)
    unfolding path_after to_come
    closed-step l =
        let none : ltb 65 p.depth ≡ true = lt-ltb 65 p.depth l in
        onwards (λ d. omega (arith, l)) p (rw (lt-ltb 64 p.depth (omega arith)) refl) ∙ rw (none, none_left sg.branches (scan.nodes + 1) s, none_left sg.branches scan.nodes (σ ∷ s)) refl

    by-depth : (t u : Bool) → ltb 64 p.depth ≡ t → eqb p.depth 65 ≡ u → height_by (scan_of sg scan (σ ∷ s)) ≡ depths_from sg.branches (to_come p) scan.nodes (σ ∷ s)
    by-depth false u e f = low_step e
    by-depth true true e f = deep_step (eqb-true p.depth 65 f)
    by-depth true false e f =
        let d = ltb-true 64 p.depth e in
        let n = eqb-false p.depth 65 f in
        closed-step (omega (arith, d, n))

  height-from : (s : List ℕ) → HeightFrom s
  unfolding HeightFrom height_by scan_of depths_from
  height-from [] scan h = rw (le-ltb scan.high scan.nodes (omega arith)) refl
  height-from (σ ∷ s) scan h = by-depth σ s (height-from s) scan h (ltb 64 scan.path.depth) (eqb scan.path.depth 65) refl refl

  -- what one pass finds is what line 12 says of the tree
  pub scan-height : (s : List ℕ) (t : Tree) → Stands sg.branches s 0 t → height_by (scan_of sg nothing_read s) ≡ height_check t
  unfolding nothing_read HeightFrom to_come waits
  scan-height s t h = height-from s nothing_read refl ∙ height-walked sg.branches s t h
