-- `wrong_place` is nothing exactly for the texts of the grammar, and otherwise the place where a text goes wrong.
-- Assumes nothing.
use Rattle.std.proofs.Common.{Option, Some, None}
use Prim.Native.Nat.{ℕ, zero, suc, ◌+◌, ◌<◌, ◌≤◌}
use native.Mathlib.Omega.{arith}
use native.Mathlib.Numerals.{add-one}
use mathlib.Core.Path.{◌≡◌, refl, sym, ap, ◌∙◌}
use mathlib.Core.Bool.{Bool, true, false, not}
use mathlib.Core.List.{List, [], ◌∷◌, ◌++◌}
use lib.Dec.{eqb}
use lib.Arith.{lt_of_le-ne}
use lib.ListN.{length, get_or, take, drop, take-append-drop, length-append}
use lib.Seq.{take-suc, take-length, get_or-append-add}
use borrow.Author.Tests.{eqb-true, eqb-false, eq-eqb, not-true, not-false, lt-ltb, le-ltb}
use Rattle.blocks.proofs.Laws.{lowest-at, lowest-nothing}
use Rattle.refusal.proofs.Passed.{clash, and-is-true}
use Rattle.tags.specs.Classes.{class_of}
use Rattle.tags.proofs.ClassLaws.{space-less}
use Rattle.grammar.specs.Grammar.{Elements, empty, element, Spaces, none, more, Writes, blank, tagged, Text, OneOrMore, Begins, WrongAt, open_tag, close_tag}
use Rattle.grammar.specs.Pushdown.{Configuration, between, tag, one, two, closing, dead, step, steps, alive, Alive}
use Rattle.grammar.specs.Wrong.{nothing_open, only_spaces, begins, is_text, wrong_at, wrong_place}
use Rattle.grammar.specs.Reading.{TextRead, parse_of}
use Rattle.grammar.proofs.PushdownLaws.{steps-append, text-steps, alive-begins, between-writes, dead-begins}
use Rattle.grammar.proofs.Once.{wrong-once}

pub next-steps : (s : List ℕ) (a : ℕ) (q : Configuration) → a < length s → steps (between []) (take a s) ≡ q → steps (between []) (take (a + 1) s) ≡ step q (get_or s a 0)
unfolding steps
next-steps s a q h e =
    let t : take (a + 1) s ≡ take a s ++ (get_or s a 0 ∷ []) = rw (add-one a) (take-suc s a 0 h) in
    ap (steps (between [])) t ∙ steps-append (between []) (take a s) (get_or s a 0 ∷ []) ∙ ap (λ (r : Configuration). step r (get_or s a 0)) e

-- a text begins with each of its prefixes
pub text-begins : (s : List ℕ) (n : ℕ) (r : Elements) → Text s r → Begins (take n s)
text-begins s n r t = record { rest = drop n s; run = r; text = rw (take-append-drop n s) t }

apart : (n m : ℕ) → n ≤ m → (n < m → ⊥) → n ≡ m
apart n m h k = go (eqb n m) refl
  where
    go : (t : Bool) → eqb n m ≡ t → n ≡ m
    go true e = eqb-true n m e
    go false e = absurd (k (lt_of_le-ne h (eqb-false n m e)))

no-between : (s : List ℕ) (p : ℕ) (q : Configuration) → p ≡ length s → steps (between []) (take p s) ≡ q → (q ≡ between [] → ⊥) → (r : Elements) → Text s r → ⊥
no-between s p q e g k r t =
    k (sym g ∙ ap (steps (between [])) (ap (λ (n : ℕ). take n s) e ∙ take-length s) ∙ text-steps t.writes)

-- the automaton reads up to p, and no byte that it takes stands there
pub wrong-there :
    (s : List ℕ) (p : ℕ) (q : Configuration) → p ≤ length s → steps (between []) (take p s) ≡ q → Alive q →
    (p < length s → step q (get_or s p 0) ≡ dead) → (p ≡ length s → q ≡ between [] → ⊥) → WrongAt s p
wrong-there s p q to g alive stop early =
    let there : p < length s → Begins (take (p + 1) s) → ⊥ =
    λ l b. dead-begins (take (p + 1) s) (next-steps s p q l g ∙ stop l) b in
    record {
      within = to;
      before = alive-begins (take p s) (rw g alive);
      there = there;
      no_text =
          λ r t.
          let l : p ≡ length s = apart p (length s) to (λ l. there l (text-begins s (p + 1) r t)) in
          no-between s p q l g (early l) r t;
    }

-- ---- bytes that begin a text

alive-true : (q : Configuration) → alive q ≡ true → Alive q
alive-true q e = rw e tt

alive-false : (q : Configuration) → alive q ≡ false → q ≡ dead
alive-false (between stack) e = clash (cc)
alive-false (tag stack) e = clash (cc)
alive-false (one d stack) e = clash (cc)
alive-false (two n stack) e = clash (cc)
alive-false (closing rest stack) e = clash (cc)
alive-false dead e = refl

pub begins-true : (p : List ℕ) → begins p ≡ true → Begins p
unfolding begins
begins-true p e = alive-begins p (alive-true (steps (between []) p) e)

pub begins-false : (p : List ℕ) → begins p ≡ false → Begins p → ⊥
unfolding begins
begins-false p e = dead-begins p (alive-false (steps (between []) p) e)

-- ---- bytes that are a text

nothing-open : (q : Configuration) → nothing_open q ≡ true → q ≡ between []
nothing-open (between []) e = refl
nothing-open (between (n ∷ stack)) e = clash (cc)
nothing-open (tag stack) e = clash (cc)
nothing-open (one d stack) e = clash (cc)
nothing-open (two n stack) e = clash (cc)
nothing-open (closing rest stack) e = clash (cc)
nothing-open dead e = clash (cc)

spaces-only : {s : List ℕ} → Spaces s → only_spaces s ≡ true
spaces-only none = refl
spaces-only (more b e h) = rw (eq-eqb (class_of b) 0 e) (spaces-only h)

only-each : (s : List ℕ) → only_spaces s ≡ true → (i : ℕ) → i < length s → class_of (get_or s i 0) ≡ 0
only-each [] e i h = absurd (omega arith)
only-each (b ∷ s) e zero h = eqb-true _ 0 (and-is-true _ (only_spaces s) e).0
only-each (b ∷ s) e (suc i) h = only-each s (and-is-true (eqb (class_of b) 0) _ e).1 i (omega arith)

-- a run with an element has a `<`
pub less-in : {s : List ℕ} {r : Elements} → Writes s r → OneOrMore r → (i : ℕ) × (i < length s) × (get_or s i 0 ≡ 60)
unfolding open_tag
less-in (blank h) o = absurd o
less-in (tagged {s = s} {x = x} {y = y} n h k wx wy) o = less-at s n (x ++ (close_tag n ++ y))
  where
    less-at : (s : List ℕ) (n : ℕ) (z : List ℕ) → (i : ℕ) × (i < length (s ++ (open_tag n ++ z))) × (get_or (s ++ (open_tag n ++ z)) i 0 ≡ 60)
    less-at s n z =
        (length s + 0, simp length-append (omega arith), get_or-append-add s (open_tag n ++ z) 0 0)

some : (s : List ℕ) (r : Elements) → only_spaces s ≡ false → Writes s r → OneOrMore r
some s empty e (blank h) = let z : true ≡ false = sym (spaces-only h) ∙ e in clash (cc)
some s (element n x y) e w = tt

-- where a byte is no space
pub some_at : (s : List ℕ) (i : ℕ) (r : Elements) → i < length s → (class_of (get_or s i 0) ≡ 0 → ⊥) → Writes s r → OneOrMore r
some_at s i r h k w = go (only_spaces s) refl
  where
    go : (t : Bool) → only_spaces s ≡ t → OneOrMore r
    go true e = absurd (k (only-each s e i h))
    go false e = some s r e w

pub text-true : (s : List ℕ) → is_text s ≡ true → (r : Elements) × Text s r
unfolding is_text
text-true s e =
    let both = and-is-true (nothing_open (steps (between []) s)) (not (only_spaces s)) e in
    let w = between-writes s (nothing-open _ both.0) in
    (w.0, record { writes = w.1; some = some s w.0 (not-true _ both.1) w.1 })

pub text-false : (s : List ℕ) → is_text s ≡ false → (r : Elements) → Text s r → ⊥
unfolding is_text
text-false s e r t =
    let i = less-in t.writes t.some in
    go (only_spaces s) refl (λ h. space-less _ (only-each s h i.0 i.1) i.2) (rw (text-steps t.writes) at e)
  where
    go : (b : Bool) → only_spaces s ≡ b → (only_spaces s ≡ true → ⊥) → not (only_spaces s) ≡ false → ⊥
    go true h k f = k h
    go false h k f = let z : true ≡ false = (rw h at f) in clash (cc)

-- ---- the place

module _ (s : List ℕ) where
  inside : (i : ℕ) → i < length s → wrong_at s i ≡ not (begins (take (suc i) s))
  unfolding wrong_at
  inside i h = rw (lt-ltb i (length s) h)

  at-end : (i : ℕ) → i ≡ length s → wrong_at s i ≡ not (is_text s)
  unfolding wrong_at
  at-end i h = rw (le-ltb i (length s) (omega arith))

  -- where nothing was wrong before a place, the bytes before it begin a text
  before : (i : ℕ) → i ≤ length s → ((j : ℕ) → 0 ≤ j → j < i → wrong_at s j ≡ false) → Begins (take i s)
  unfolding begins steps
  before zero l h = begins-true (take 0 s) refl
  before (suc i) l h = begins-true (take (suc i) s) (not-false _ (sym (inside i (omega arith)) ∙ h i (omega arith) (omega arith)))

  found_at : (i : ℕ) → i ≤ length s → wrong_at s i ≡ true → ((j : ℕ) → 0 ≤ j → j < i → wrong_at s j ≡ false) → WrongAt s i
  found_at i l w h =
      let there : i < length s → Begins (take (i + 1) s) → ⊥ =
      λ m b. begins-false (take (suc i) s) (not-true _ (sym (inside i m) ∙ w)) (rw add-one at b) in
      record {
        within = l;
        before = before i l h;
        there = there;
        no_text =
            λ r t.
            let e : i ≡ length s = apart i (length s) l (λ m. there m (text-begins s (i + 1) r t)) in
            text-false s (not-true _ (sym (at-end i e) ∙ w)) r t;
      }

  answered-by : (f : Option ℕ) → wrong_place s ≡ f → TextRead s f
  unfolding wrong_place
  answered-by (Some i) e =
      let f = lowest-at (wrong_at s) 0 (suc (length s)) i e in
      found_at i (omega (arith, f.inside)) f.holds f.first
  answered-by None e =
      text-true s (not-false _ (sym (at-end (length s) refl) ∙ lowest-nothing (wrong_at s) 0 (suc (length s)) e (length s) (omega arith) (omega arith)))

  pub answered : TextRead s (wrong_place s)
  answered = answered-by (wrong_place s) refl

-- a text has one answer
pub one_answer : (s : List ℕ) (a b : Option ℕ) → TextRead s a → TextRead s b → a ≡ b
one_answer s None None h k = refl
one_answer s None (Some q) h k = absurd (k.no_text h.0 h.1)
one_answer s (Some p) None h k = absurd (h.no_text k.0 k.1)
one_answer s (Some p) (Some q) h k = ap Some (wrong-once h k)

-- so what the grammar answers is what is computed
pub told : (s : List ℕ) (a : Option ℕ) (k : ℕ) → TextRead s a → parse_of a k ≡ parse_of (wrong_place s) k
told s a k h = ap (λ (f : Option ℕ). parse_of f k) (one_answer s a (wrong_place s) h (answered s))
