-- What a round does, whatever the classes: which candidates it has, the first that is accepted, and the rows that it keeps.
use Prim.Native.Nat.{ℕ, ◌<◌}
use mathlib.Core.Path.{◌≡◌, refl, ap, ◌∙◌}
use mathlib.Core.Logic.{◌⊎◌, inl, inr}
use mathlib.Core.Bool.{Bool, true, false}
use mathlib.Core.Option.{none, some}
use mathlib.Core.List.Memᴰ
use mathlib.Core.List.{List, [], ◌∷◌, ◌++◌, map, map-append}
use native.Mathlib.Omega.{arith}
use lib.ListN.{length, length-append}
use lib.Dec.{T}
use Rattle.model.specs.Lists.{◌∈◌, Nth, count_from}
use Rattle.model.proofs.ListLaws.{nth-lt, mem-nth, nth-get_d, nth-of-map, mem-flat_map, of-flat_map, mem-count_from, of-count_from}
use Rattle.model.proofs.ListLaws.{or_cases, or_left, or_right}
use Rattle.model.specs.Saturation.{Algebra, Candidate, leaf_candidate, class_at, node_candidate, node_candidates, first_if, first_accepted, known}
use Rattle.model.specs.Saturation.{keep_if_new, absorb}

module _ (M : Algebra) where
  abbrev pub classes : List (Candidate M) → List M.Class
  classes kept = map (λ r. r.class) kept

  -- ---- the class of a row
  pub class-at : (kept : List (Candidate M)) {i : ℕ} {x : M.Class} → Nth (classes kept) i x → class_at M kept i ≡ x
  unfolding class_at
  class-at kept a = let r = nth-of-map kept (λ r. r.class) a in ap (λ (c : Candidate M). c.class) (nth-get_d (leaf_candidate M 0) r.1) ∙ r.2

  -- A class among the rows' is that of some row.
  pub class-place : (kept : List (Candidate M)) (x : M.Class) → x ∈ classes kept → (i : ℕ) × (i < length kept) × (class_at M kept i ≡ x)
  class-place kept x m =
      let a = mem-nth m in
      let r = nth-of-map kept (λ r. r.class) a.1 in
      (a.0, nth-lt r.1, class-at kept a.1)

  -- ---- the candidates of a round above 0
  pub mem-node_candidates : (bs : List ℕ) (kept : List (Candidate M)) (σ a b : ℕ) → σ ∈ bs → a < length kept → b < length kept
      → node_candidate M kept σ a b ∈ node_candidates M bs kept
  unfolding node_candidates
  mem-node_candidates bs kept σ a b m h k =
      let left = mem-count_from 0 (length kept) a (omega arith) (omega arith) in
      let right = mem-count_from 0 (length kept) b (omega arith) (omega arith) in
      mem-flat_map _ m (mem-flat_map _ left (Memᴰ.map _ right))

  pub record FromRows (bs : List ℕ) (kept : List (Candidate M)) (c : Candidate M) : Type 0 where
    pub symbol : ℕ
    pub left : ℕ
    pub right : ℕ
    pub branch : symbol ∈ bs
    pub left-kept : left < length kept
    pub right_kept : right < length kept
    pub is : node_candidate M kept symbol left right ≡ c

  pub of-node_candidates : (bs : List ℕ) (kept : List (Candidate M)) (c : Candidate M) → c ∈ node_candidates M bs kept → FromRows bs kept c
  unfolding node_candidates
  of-node_candidates bs kept c m =
      let p = of-flat_map bs _ m in
      let q = of-flat_map (count_from 0 (length kept)) _ p.2 in
      let r = Memᴰ.of_map _ (count_from 0 (length kept)) q.2 in
      record {
        symbol = p.0;
        left = q.0;
        right = r.0;
        branch = p.1;
        left-kept = omega (arith, of-count_from 0 (length kept) q.0 q.1);
        right_kept = omega (arith, of-count_from 0 (length kept) r.0 r.1);
        is = r.2;
      }

  -- ---- the first accepted candidate
  pub first_some : (cs : List (Candidate M)) (c : Candidate M) → first_accepted M cs ≡ some c → (c ∈ cs) × T c.accepted
  unfolding first_accepted first_if
  first_some [] c e = let z : ◌≡◌ {A = ℕ} 0 1 = cc in absurd (omega arith)
  first_some (d ∷ cs) c e = step d.accepted refl e (first_some cs c)
    where
      step : (b : Bool) → d.accepted ≡ b → first_if M b d (first_accepted M cs) ≡ some c → (first_accepted M cs ≡ some c → (c ∈ cs) × T c.accepted)
          → (c ∈ d ∷ cs) × T c.accepted
      step true p q later = let r : c ≡ d = cc in (Memᴰ.head r, rw (r, p) tt)
      step false p q later = let r = later q in (Memᴰ.tail r.0, r.1)

  pub first-none : (cs : List (Candidate M)) → first_accepted M cs ≡ none → (c : Candidate M) → c ∈ cs → ¬ T c.accepted
  unfolding first_accepted first_if
  first-none [] e c m = absurd (Memᴰ.not-nil m)
  first-none (d ∷ cs) e c m = step d.accepted refl e (λ q. first-none cs q c) m
    where
      step : (b : Bool) → d.accepted ≡ b → first_if M b d (first_accepted M cs) ≡ none → (first_accepted M cs ≡ none → c ∈ cs → ¬ T c.accepted)
          → c ∈ d ∷ cs → ¬ T c.accepted
      step true p q later k = let z : ◌≡◌ {A = ℕ} 0 1 = cc in absurd (omega arith)
      step false p q later (Memᴰ.head r) = rw (r, p) (λ x. x)
      step false p q later (Memᴰ.tail k) = later q k

  -- ---- the rows kept
  module _ (sound : (x y : M.Class) → T (M.same x y) → x ≡ y) (reflexive : (x : M.Class) → T (M.same x x)) where
    known-mem : (x : M.Class) (rows : List (Candidate M)) → T (known M x rows) → x ∈ classes rows
    unfolding known
    known-mem x [] k = absurd k
    known-mem x (r ∷ rows) k = step (or_cases (M.same x r.class) (known M x rows) k) (known-mem x rows)
      where
        step : T (M.same x r.class) ⊎ T (known M x rows) → (T (known M x rows) → x ∈ classes rows) → x ∈ classes (r ∷ rows)
        step (inl e) later = Memᴰ.head (sound x r.class e)
        step (inr k') later = Memᴰ.tail (later k')

    pub mem-known : (x : M.Class) (rows : List (Candidate M)) → x ∈ classes rows → T (known M x rows)
    unfolding known
    mem-known x [] m = absurd (Memᴰ.not-nil m)
    mem-known x (r ∷ rows) (Memᴰ.head e) = or_left (M.same x r.class) (known M x rows) (rw (← e) (reflexive x))
    mem-known x (r ∷ rows) (Memᴰ.tail m) = or_right (M.same x r.class) (known M x rows) (mem-known x rows m)

    -- What holds of the rows at the start, and goes on to hold as a new candidate is kept, holds of the rows after the round.
    pub absorb-keeps : (P : List (Candidate M) → Type 0) (cs kept : List (Candidate M)) → P kept
        → ((c : Candidate M) → c ∈ cs → (rows : List (Candidate M)) → P rows → ¬ (c.class ∈ classes rows) → P (rows ++ c ∷ []))
        → P (absorb M kept cs)
    unfolding absorb keep_if_new
    absorb-keeps P [] kept p grow = p
    absorb-keeps P (c ∷ cs) kept p grow = absorb-keeps P cs _ (step (known M c.class kept) refl) (λ d m. grow d (Memᴰ.tail m))
      where
        step : (b : Bool) → known M c.class kept ≡ b → P (keep_if_new M b kept c)
        step true e = p
        step false e = grow c (Memᴰ.head refl) kept p (λ m. rw e at (mem-known c.class kept m))

    pub absorb-mem : (x : M.Class) (cs kept : List (Candidate M)) → x ∈ classes kept → x ∈ classes (absorb M kept cs)
    absorb-mem x cs kept m =
        absorb-keeps (λ rows. x ∈ classes rows) cs kept m
        (λ c k rows p n. rw map-append (Memᴰ.append_left _ p))

    pub absorb-covers : (c : Candidate M) (cs kept : List (Candidate M)) → c ∈ cs → c.class ∈ classes (absorb M kept cs)
    unfolding absorb keep_if_new
    absorb-covers c [] kept m = elim m [ ]
    absorb-covers c (d ∷ cs) kept (Memᴰ.head e) = absorb-mem c.class cs _ (step (known M d.class kept) refl)
      where
        step : (b : Bool) → known M d.class kept ≡ b → c.class ∈ classes (keep_if_new M b kept d)
        step true p = known-mem c.class kept (rw (e, p) tt)
        step false p = rw map-append (Memᴰ.append_right (classes kept) (Memᴰ.head (ap (λ (r : Candidate M). r.class) e)))
    absorb-covers c (d ∷ cs) kept (Memᴰ.tail m) = absorb-covers c cs _ m

    -- A round keeps its rows as they are, or has new ones.
    pub absorb-steady : (cs kept : List (Candidate M)) → (absorb M kept cs ≡ kept) ⊎ (length kept < length (absorb M kept cs))
    absorb-steady cs kept =
        absorb-keeps (λ rows. (rows ≡ kept) ⊎ (length kept < length rows)) cs kept (inl refl) (λ c m rows p new. inr (longer c rows p))
      where
        longer : (c : Candidate M) (rows : List (Candidate M)) → (rows ≡ kept) ⊎ (length kept < length rows) → length kept < length (rows ++ c ∷ [])
        longer c rows (inl e) = omega (arith, length-append rows (c ∷ []), ap length e)
        longer c rows (inr h) = omega (arith, length-append rows (c ∷ []))
