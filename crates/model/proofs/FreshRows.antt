-- The saturation over fresh rows tells the same (`fresh-saturation`). Assumes nothing.
-- Interface: `count_from-append`, `Old`, `Stale`, `class-stays`, `tried-old`, `all_old`, `fresh-stale`, `fresh-saturation`.
use Prim.Native.Nat.{ℕ, zero, suc, ◌+◌, ◌-◌, ◌≤◌, ◌<◌}
use mathlib.Core.Path.{◌≡◌, refl, sym, ap, ap₂, ◌∙◌}
use mathlib.Core.Bool.{Bool, true, false}
use mathlib.Core.Option.{Option, none, some}
use mathlib.Core.List.Memᴰ
use mathlib.Core.List.{List, [], ◌∷◌, ◌++◌, map, flat_map, append-nil, map-append}
use native.Mathlib.Nat.{zero-add, add-zero}
use native.Mathlib.Omega.{arith}
use lib.ListN.{length}
use lib.Dec.{T, ltb, ltb→lt}
use Rattle.model.specs.Lists.{◌∈◌, count_from}
use Rattle.model.proofs.ListLaws.{nth-of-lt, nth-get_d, of-count_from}
use Rattle.model.specs.Counting.{Alphabet}
use Rattle.model.specs.Saturation.{Algebra, Candidate, Ending, done, onward, leaf_candidate, class_at, node_candidate}
use Rattle.model.specs.Saturation.{node_candidates, candidates, first_if, first_accepted, known, keep_if_new, absorb, settle, conclude, round, after}
use Rattle.model.specs.Saturation.{rounds, saturation}
use Rattle.model.proofs.Round.{classes, mem-node_candidates, first-none, mem-known, absorb-covers}
use Rattle.model.proofs.Turns.{absorb-at, absorb-longer}
use Rattle.model.specs.Fresh.{rights, fresh_nodes, fresh_candidates, fresh_round, fresh_rounds, fresh_saturation}

-- ---- lists without some elements that are P

-- Thin P l m: m is l without some elements that are P.
data Thin {A : Type 0} (P : A → Type 0) : List A → List A → Type 0 where
  end : Thin P [] []
  keep : {a : A} {l m : List A} → Thin P l m → Thin P (a ∷ l) (a ∷ m)
  skip : {a : A} {l m : List A} → P a → Thin P l m → Thin P (a ∷ l) m

module _ {A : Type 0} {P : A → Type 0} where
  thin-refl : (l : List A) → Thin P l l
  thin-refl [] = end
  thin-refl (a ∷ l) = keep (thin-refl l)

  thin-all : (l m : List A) → ((a : A) → a ∈ l → P a) → Thin P (l ++ m) m
  thin-all [] m h = thin-refl m
  thin-all (a ∷ l) m h = skip (h a (Memᴰ.head refl)) (thin-all l m (λ b k. h b (Memᴰ.tail k)))

  thin-append : {l m l' m' : List A} → Thin P l m → Thin P l' m' → Thin P (l ++ l') (m ++ m')
  thin-append end u = u
  thin-append (keep t) u = keep (thin-append t u)
  thin-append (skip p t) u = skip p (thin-append t u)

thin-flat_map : {A B : Type 0} {P : B → Type 0} (f g : A → List B) (l : List A) → ((a : A) → a ∈ l → Thin P (f a) (g a)) →
    Thin P (flat_map f l) (flat_map g l)
unfolding flat_map
thin-flat_map f g [] h = end
thin-flat_map f g (a ∷ l) h = thin-append (h a (Memᴰ.head refl)) (thin-flat_map f g l (λ b k. h b (Memᴰ.tail k)))

pub count_from-append : (s k m : ℕ) → count_from s (k + m) ≡ count_from s k ++ count_from (s + k) m
unfolding count_from
count_from-append s zero m = rw (zero-add, add-zero)
count_from-append s (suc k) m =
    let e : suc k + m ≡ suc (k + m) = omega arith in
    let f : suc s + k ≡ s + suc k = omega arith in
    rw (e, ← f) (ap (λ (l : List ℕ). s ∷ l) (count_from-append (suc s) k m))

-- ---- it tells the same

module _ (M : Algebra) where
  -- A candidate that need not be tried: its class is that of a row, and it is not accepted.
  abbrev pub Old : List (Candidate M) → Candidate M → Type 0
  Old kept c = (c.class ∈ classes M kept) × (c.accepted ≡ false)

  -- What round h may leave out.
  abbrev pub Stale : Alphabet → (h old : ℕ) → List (Candidate M) → Type 0
  Stale S zero old kept = kept ≡ []
  Stale S (suc h) old kept =
      (old ≤ length kept) × ((σ a b : ℕ) → σ ∈ S.branches → a < old → b < old → Old kept (node_candidate M kept σ a b))

  -- The rows kept stay where they are.
  pub class-stays : (kept cs : List (Candidate M)) (i : ℕ) → i < length kept → class_at M (absorb M kept cs) i ≡ class_at M kept i
  unfolding class_at
  class-stays kept cs i l =
      let r = nth-of-lt kept i l in
      ap (λ (c : Candidate M). c.class) (nth-get_d (leaf_candidate M 0) (absorb-at M kept cs r.1) ∙ sym (nth-get_d (leaf_candidate M 0) r.1))

  candidate-stays : (kept cs : List (Candidate M)) (σ a b : ℕ) → a < length kept → b < length kept →
      node_candidate M (absorb M kept cs) σ a b ≡ node_candidate M kept σ a b
  unfolding node_candidate
  candidate-stays kept cs σ a b la lb = rw (class-stays kept cs a la, class-stays kept cs b lb)

module _ (M : Algebra) (sound : (x y : M.Class) → T (M.same x y) → x ≡ y) (reflexive : (x : M.Class) → T (M.same x x)) where
  -- A candidate tried where none is accepted is old from then on.
  pub tried-old : (kept cs : List (Candidate M)) (c : Candidate M) → first_accepted M cs ≡ none → c ∈ cs → Old M (absorb M kept cs) c
  tried-old kept cs c e m = (absorb-covers M sound reflexive c cs kept m, false_of_not _ (first-none M cs e c m))
    where
      false_of_not : (b : Bool) → ¬ T b → b ≡ false
      false_of_not true n = absurd (n tt)
      false_of_not false n = refl

  thin-first : {P : Candidate M → Type 0} {xs ys : List (Candidate M)} → ((c : Candidate M) → P c → c.accepted ≡ false) →
      Thin P xs ys → first_accepted M xs ≡ first_accepted M ys
  unfolding first_accepted first_if
  thin-first h end = refl
  thin-first h (keep t) = rw (thin-first h t)
  thin-first h (skip {a = c} p t) = rw (h c p) (thin-first h t)

  mem-keep_if_new : (b : Bool) (kept : List (Candidate M)) (c : Candidate M) (x : M.Class) → x ∈ classes M kept → x ∈ classes M (keep_if_new M b kept c)
  unfolding keep_if_new
  mem-keep_if_new true kept c x m = m
  mem-keep_if_new false kept c x m = rw map-append (Memᴰ.append_left _ m)

  thin-absorb : {P : Candidate M → Type 0} {xs ys : List (Candidate M)} (kept : List (Candidate M)) →
      ((c : Candidate M) → P c → c.class ∈ classes M kept) → Thin P xs ys → absorb M kept xs ≡ absorb M kept ys
  unfolding absorb keep_if_new
  thin-absorb kept h end = refl
  thin-absorb kept h (keep {a = c} t) =
      thin-absorb (keep_if_new M (known M c.class kept) kept c) (λ d p. mem-keep_if_new (known M c.class kept) kept c d.class (h d p)) t
  thin-absorb kept h (skip {a = c} {l = xs} p t) =
      ap (λ (rows : List (Candidate M)). absorb M rows xs)
      (not_new (known M c.class kept) (mem-known M sound reflexive c.class kept (h c p))) ∙ thin-absorb kept h t
    where
      not_new : (b : Bool) → T b → keep_if_new M b kept c ≡ kept
      not_new true k = refl
      not_new false k = absurd k

  -- Of candidates that need not be tried none is accepted, and the rows stay as they are.
  pub all_old : (kept cs : List (Candidate M)) → ((c : Candidate M) → c ∈ cs → Old M kept c) → (first_accepted M cs ≡ none) × (absorb M kept cs ≡ kept)
  unfolding first_accepted absorb
  all_old kept cs h =
      let t : Thin (Old M kept) cs [] = rw append-nil at (thin-all cs [] h) in
      (thin-first (λ c p. p.1) t, thin-absorb kept (λ c p. p.0) t)

  -- A round without the candidates that need not be tried.
  module _ (bs : List ℕ) (old : ℕ) (kept : List (Candidate M)) (fits : old ≤ length kept)
      (stale : (σ a b : ℕ) → σ ∈ bs → a < old → b < old → Old M kept (node_candidate M kept σ a b)) where
    thin-rights : (σ a : ℕ) → σ ∈ bs → (is-old : Bool) → ltb a old ≡ is-old →
        Thin (Old M kept) (map (λ b. node_candidate M kept σ a b) (count_from 0 (length kept)))
        (map (λ b. node_candidate M kept σ a b) (rights is-old old (length kept)))
    thin-rights σ a m false e = thin-refl _
    thin-rights σ a m true e =
        let n : length kept ≡ old + (length kept - old) = omega arith in
        let split : count_from 0 (length kept) ≡ count_from 0 old ++ count_from old (length kept - old) =
        ap (count_from 0) n ∙ count_from-append 0 old (length kept - old)
        ∙ ap (λ (s : ℕ). count_from 0 old ++ count_from s (length kept - old)) (omega arith) in
        rw (split, map-append) (thin-all (map (λ b. node_candidate M kept σ a b) (count_from 0 old)) _ each)
      where
        each : (c : Candidate M) → c ∈ map (λ b. node_candidate M kept σ a b) (count_from 0 old) → Old M kept c
        each c k =
            let r = Memᴰ.of_map (λ b. node_candidate M kept σ a b) (count_from 0 old) k in
            rw (← r.2) (stale σ a r.0 m (ltb→lt a old (rw e tt)) (omega (arith, of-count_from 0 old r.0 r.1)))

    thin-nodes : Thin (Old M kept) (node_candidates M bs kept) (fresh_nodes M bs old kept)
    unfolding node_candidates fresh_nodes
    thin-nodes = thin-flat_map _ _ bs (λ σ m. thin-flat_map _ _ (count_from 0 (length kept)) (λ a k. thin-rights σ a m (ltb a old) refl))

  module _ (S : Alphabet) where
    thin-candidates : (h old : ℕ) (kept : List (Candidate M)) → Stale M S h old kept →
        Thin (Old M kept) (candidates M S h kept) (fresh_candidates M S h old kept)
    unfolding candidates fresh_candidates
    thin-candidates zero old kept s = thin-refl _
    thin-candidates (suc h) old kept s = thin-nodes S.branches old kept s.0 s.1

    round_same : (limit h old : ℕ) (kept : List (Candidate M)) → Stale M S h old kept → fresh_round M S limit h old kept ≡ round M S limit h kept
    unfolding fresh_round round
    round_same limit h old kept s =
        let t = thin-candidates h old kept s in
        ap₂ (conclude M limit h kept) (sym (thin-first (λ c p. p.1) t)) (sym (thin-absorb kept (λ c p. p.0) t))

    -- After a round in which none is accepted, all its candidates are old.
    next-stale : (h old : ℕ) (kept : List (Candidate M)) → Stale M S h old kept → first_accepted M (candidates M S h kept) ≡ none →
        Stale M S (suc h) (length kept) (absorb M kept (candidates M S h kept))
    unfolding candidates
    next-stale zero old kept s e = (absorb-longer M kept _, λ σ a b m la lb. absurd (omega (arith, ap length s)))
    next-stale (suc h) old kept s e = (absorb-longer M kept _, each)
      where
        cs : List (Candidate M)
        cs = node_candidates M S.branches kept

        each : (σ a b : ℕ) → σ ∈ S.branches → a < length kept → b < length kept → Old M (absorb M kept cs) (node_candidate M (absorb M kept cs) σ a b)
        each σ a b m la lb =
            let c = mem-node_candidates M S.branches kept σ a b m la lb in
            rw (candidate-stays M kept cs σ a b la lb) (tried-old kept cs (node_candidate M kept σ a b) e c)

    -- The same where only the fresh candidates are tried.
    pub fresh-stale : (h old : ℕ) (kept : List (Candidate M)) → Stale M S h old kept → first_accepted M (fresh_candidates M S h old kept) ≡ none →
        Stale M S (suc h) (length kept) (absorb M kept (fresh_candidates M S h old kept))
    fresh-stale h old kept s e =
        let t = thin-candidates h old kept s in
        rw (← thin-absorb kept (λ c p. p.0) t) (next-stale h old kept s (thin-first (λ c p. p.1) t ∙ e))

    -- A round that gives no verdict: none was accepted, and the rows go on.
    settle-onward : (h : ℕ) (full quiet : Bool) (next rows : List (Candidate M)) → settle M h full quiet next ≡ onward rows → rows ≡ next
    unfolding settle
    settle-onward h true quiet next rows e = let z : ◌≡◌ {A = ℕ} 0 1 = cc in absurd (omega arith)
    settle-onward h false true next rows e = let z : ◌≡◌ {A = ℕ} 0 1 = cc in absurd (omega arith)
    settle-onward h false false next rows e = cc

    conclude-onward : (limit h : ℕ) (kept : List (Candidate M)) (o : Option (Candidate M)) (next rows : List (Candidate M)) →
        conclude M limit h kept o next ≡ onward rows → (o ≡ none) × (rows ≡ next)
    unfolding conclude
    conclude-onward limit h kept (some c) next rows e = let z : ◌≡◌ {A = ℕ} 0 1 = cc in absurd (omega arith)
    conclude-onward limit h kept none next rows e = (refl, settle-onward h _ _ next rows e)

    rounds-same : (limit fuel h old : ℕ) (kept : List (Candidate M)) → Stale M S h old kept →
        fresh_rounds M S limit fuel h old kept ≡ rounds M S limit fuel h kept
    unfolding fresh_rounds rounds after round
    rounds-same limit zero h old kept s = refl
    rounds-same limit (suc fuel) h old kept s =
        rw (round_same limit h old kept s) (go (round M S limit h kept) refl (rounds-same limit fuel (suc h) (length kept)))
      where
        go : (o : Ending M) → round M S limit h kept ≡ o →
            ((next : List (Candidate M)) → Stale M S (suc h) (length kept) next →
            fresh_rounds M S limit fuel (suc h) (length kept) next ≡ rounds M S limit fuel (suc h) next) →
            after M o (λ next. fresh_rounds M S limit fuel (suc h) (length kept) next) ≡ after M o (λ next. rounds M S limit fuel (suc h) next)
        go (done v) e later = refl
        go (onward rows) e later =
            let r = conclude-onward limit h kept (first_accepted M (candidates M S h kept)) (absorb M kept (candidates M S h kept)) rows e in
            later rows (rw r.1 (next-stale h old kept s r.0))

    pub fresh-saturation : (limit : ℕ) → fresh_saturation M S limit ≡ saturation M S limit
    unfolding fresh_saturation saturation
    fresh-saturation limit = rounds-same limit (suc limit) 0 0 [] refl
