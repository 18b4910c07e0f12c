-- Laws of candidates that are skipped: each does the same as one that need not be tried again.
-- Assumes nothing.
use Prim.Native.Nat.{ℕ, ◌-◌, ◌≤◌, ◌<◌}
use mathlib.Core.Path.{◌≡◌, refl, sym, ◌∙◌}
use mathlib.Core.Bool.{Bool, true, false}
use mathlib.Core.List.Memᴰ
use mathlib.Core.List.{List, [], ◌∷◌, map, flat_map}
use native.Mathlib.Decide.{dec_lt}
use native.Mathlib.Omega.{arith}
use lib.Dec.{ltb, ltb→lt}
use Rattle.model.specs.Lists.{◌∈◌, count_from}
use Rattle.model.proofs.ListLaws.{nth-mem, mem-nth, nth-map, nth-of-map, mem-flat_map, mem-count_from, of-count_from}
use Rattle.model.specs.Saturation.{Algebra, Candidate, class_at, node_candidate, absorb}
use Rattle.model.specs.Fresh.{rights}
use Rattle.model.proofs.Round.{classes, absorb-mem}
use Rattle.model.proofs.FreshRows.{Old, tried-old, all_old}
use Rattle.model.specs.declared.Side.{Side}
use Rattle.algorithms.specs.Automaton.{Automaton, alphabet_of}
use Rattle.algorithms.specs.Saturate.{algebra_of}
use Rattle.algorithms.proofs.Alphabets.{to-numbered}
use Rattle.algorithms.proofs.Recognized.{same-sound, same_refl}
use Rattle.relation.specs.Sets.{member, member_has}
use Rattle.automaton.specs.declared.Header.{Header}
use Rattle.overloops.specs.Ready.{Headed}
use Rattle.interchange.specs.Interchange.{Interchangeable, Doubled}
use Rattle.interchange.proofs.Laws.{node-same}
use Rattle.candidates.specs.Tries.{over_lefts, Keeps, Settled, Tries, onward}
use Rattle.candidates.specs.declared.Tried.{Tried}

-- a number is among the right rows beside a left row, unless both are old
mem-rights : (a b old to : ℕ) → b < to → (a < old → b < old → ⊥) → b ∈ rights (ltb a old) old to
mem-rights a b old to l n = by (ltb a old) refl
  where
    by : (is-old : Bool) → ltb a old ≡ is-old → b ∈ rights is-old old to
    by true e = let h : a < old = ltb→lt a old (rw e tt) in mem-count_from old (to - old) b (omega (arith, n h)) (omega (arith, n h))
    by false e = mem-count_from 0 to b (omega arith) (omega arith)

rights-small : (a b old to : ℕ) → old ≤ to → b ∈ rights (ltb a old) old to → b < to
rights-small a b old to l = by (ltb a old)
  where
    by : (is-old : Bool) → b ∈ rights is-old old to → b < to
    by true m = omega (arith, of-count_from old (to - old) b m)
    by false m = omega (arith, of-count_from 0 to b m)

module _ (A : Automaton) where
  abbrev M : Algebra
  M = algebra_of A

  abbrev Rows : Type 0
  Rows = List (Candidate M)

  -- ---- what need not be tried

  -- what was tried, none being accepted
  tried-settled : {base kept cs : Rows} {n : ℕ} {rows : List ℕ} (c : Candidate M) → Tries A base kept cs rows (Tried.Kept n) → c ∈ cs → Old M (absorb M kept cs) c
  tried-settled {kept = kept} {cs = cs} c (onward e h) m = tried-old M same-sound same_refl kept cs c e m

  -- what need not be tried need not be later on
  still-old : (kept cs : Rows) (c : Candidate M) → Old M kept c → Old M (absorb M kept cs) c
  still-old kept cs c o = (absorb-mem M same-sound same_refl c.class cs kept o.0, o.1)

  kept-old : {base kept : Rows} {n : ℕ} {rows : List ℕ} (c : Candidate M) → Keeps A base kept n rows → Old M base c → Old M kept c
  kept-old {base} {kept} c h o =
      let a = mem-nth o.0 in
      let r = nth-of-map base (λ r. r.class) a.1 in
      let m : c.class ∈ classes M kept = rw r.2 at (nth-mem (nth-map (λ r. r.class) (h.extends a.0 r.0 r.1))) in
      (m, o.1)

  -- a candidate over interchangeable parts
  as_settled : (base kept : Rows) (σ a a' b b' : ℕ) → Interchangeable A σ Side.Left (class_at M base a) (class_at M base a')
      → Interchangeable A σ Side.Right (class_at M base b) (class_at M base b') → Settled A base kept σ a b → Settled A base kept σ a' b'
  unfolding node_candidate
  as_settled base kept σ a a' b b' h g o =
      let n = node-same A σ (class_at M base a) (class_at M base a') (class_at M base b) (class_at M base b') h g in
      (rw n.0 at o.0, sym n.1 ∙ o.1)

  -- candidates that need not be tried, skipped
  skipped : {base kept : Rows} {n : ℕ} {rows : List ℕ} (cs : Rows) → Keeps A base kept n rows → ((c : Candidate M) → c ∈ cs → Old M kept c)
      → Tries A base kept cs rows (Tried.Kept n)
  skipped {kept = kept} cs h f = let r = all_old M same-sound same_refl kept cs f in onward r.0 (rw (sym r.1) at h)

  -- ---- the rows skipped

  pub right-skipped : {base kept : Rows} {n : ℕ} {rows : List ℕ} (σ a b : ℕ) → Keeps A base kept n rows → Doubled A σ Side.Right (class_at M base) b
      → ((b' : ℕ) → b' < b → Settled A base kept σ a b') → Tries A base kept (node_candidate M base σ a b ∷ []) rows (Tried.Kept n)
  right-skipped {base} {kept} σ a b h d f =
      skipped (node_candidate M base σ a b ∷ []) h
      (λ c m. rw (Memᴰ.eq_of_singleton m) (as_settled base kept σ a a d.0 b (λ τ. refl) d.2 (f d.0 d.1)))

  pub left-skipped : {base kept : Rows} {n : ℕ} {rows : List ℕ} (σ a old to : ℕ) → old ≤ to → Keeps A base kept n rows → Doubled A σ Side.Left (class_at M base) a
      → ((a' b : ℕ) → a' < a → b < to → Settled A base kept σ a' b)
      → Tries A base kept (map (λ b. node_candidate M base σ a b) (rights (ltb a old) old to)) rows (Tried.Kept n)
  left-skipped {base} {kept} σ a old to l h d f = skipped (map (λ b. node_candidate M base σ a b) (rights (ltb a old) old to)) h each
    where
      each : (c : Candidate M) → c ∈ map (λ b. node_candidate M base σ a b) (rights (ltb a old) old to) → Old M kept c
      each c m =
          let r = Memᴰ.of_map (λ b. node_candidate M base σ a b) (rights (ltb a old) old to) m in
          rw (← r.2) (as_settled base kept σ d.0 a r.0 r.0 d.2 (λ τ. refl) (f d.0 r.0 d.1 (rights-small a r.0 old to l r.1)))

  -- ---- what the loops have tried

  pub rights-settled : {base kept : Rows} {n : ℕ} {rows : List ℕ} (σ a from right : ℕ) → from ≤ right → ((b : ℕ) → b < from → Settled A base kept σ a b)
      → Tries A base kept (flat_map (λ b. node_candidate M base σ a b ∷ []) (count_from from (right - from))) rows (Tried.Kept n)
      → (b : ℕ) → b < right → Settled A base (absorb M kept (flat_map (λ b. node_candidate M base σ a b ∷ []) (count_from from (right - from)))) σ a b
  rights-settled {base} {kept} σ a from right l f t b h = by (dec_lt b from)
    where
      by : Dec (b < from) → Settled A base (absorb M kept (flat_map (λ b. node_candidate M base σ a b ∷ []) (count_from from (right - from)))) σ a b
      by (yes k) = still-old kept _ (node_candidate M base σ a b) (f b k)
      by (no k) = tried-settled (node_candidate M base σ a b) t (mem-flat_map _ (mem-count_from from (right - from) b (omega arith) (omega arith)) (Memᴰ.head refl))

  module _ {base kept : Rows} {n : ℕ} {rows : List ℕ} (σ old to : ℕ) (h : Keeps A base kept n rows)
      (pairs : (a b : ℕ) → a < old → b < old → Settled A base base σ a b) where
    pub old-settled : (cs : Rows) (a b : ℕ) → a < old → b < old → Settled A base (absorb M kept cs) σ a b
    old-settled cs a b la lb = still-old kept cs (node_candidate M base σ a b) (kept-old (node_candidate M base σ a b) h (pairs a b la lb))

    pub lefts-settled : {m : ℕ} {rows' : List ℕ} (left : ℕ) → Tries A base kept (over_lefts M base old to σ left) rows' (Tried.Kept m)
        → (a b : ℕ) → a < left → b < to → Settled A base (absorb M kept (over_lefts M base old to σ left)) σ a b
    lefts-settled left t a b la lb = by (dec_lt a old) (dec_lt b old)
      where
        new : (a < old → b < old → ⊥) → Settled A base (absorb M kept (over_lefts M base old to σ left)) σ a b
        new f =
            tried-settled (node_candidate M base σ a b) t
            (mem-flat_map _ (mem-count_from 0 left a (omega arith) (omega arith)) (Memᴰ.map (λ b. node_candidate M base σ a b) (mem-rights a b old to lb f)))

        by : Dec (a < old) → Dec (b < old) → Settled A base (absorb M kept (over_lefts M base old to σ left)) σ a b
        by (yes p) (yes q) = old-settled (over_lefts M base old to σ left) a b p q
        by (yes p) (no q) = new (λ x y. q y)
        by (no p) q = new (λ x y. p x)

  -- a branch symbol of the header is one of the automaton
  pub branch_in : (hd : Header) (table : List ℕ) → Headed A hd table → (σ : ℕ) → σ < hd.symbols → {t : Bool} → t ≡ member hd.branches σ → t ≡ true
      → σ ∈ (alphabet_of A).branches
  branch_in hd table k σ l e t =
      to-numbered 1 A.branches 0 A.symbols σ (omega arith) (omega (arith, k.symbols))
      (rw k.branches ((member_has hd.branches σ).0 (sym e ∙ t)))
