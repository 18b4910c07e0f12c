-- The pushdown automaton over places of a list.
-- Assumes nothing.
use Prim.Native.Nat.{ℕ, zero, suc, ◌+◌, ◌<◌, ◌≤◌}
use native.Mathlib.Omega.{arith}
use mathlib.Core.Path.{◌≡◌, refl, sym, ap, ◌∙◌}
use mathlib.Core.Bool.{Bool, true, false}
use mathlib.Core.List.{List, [], ◌∷◌}
use lib.Dec.{eqb, ltb}
use lib.ListN.{length, get_or}
use lib.Arith.{lt_of_le-ne}
use borrow.Author.Tests.{eq-eqb, ne_eqb, lt-ltb, ltb-true, eqb-true, eqb-false}
use Rattle.tags.specs.Classes.{class_of, pick}
use Rattle.refusal.proofs.Passed.{clash}
use Rattle.grammar.specs.Pushdown.{Configuration, between, tag, one, two, closing, dead, step, by_class, Goes, here, on, Alive}
use Rattle.grammar.proofs.PushdownLaws.{step-space}
use Rattle.grammar.specs.Reading.{class_at, IsByte, Stuck}
use Rattle.grammar.specs.Wrong.{nothing_open}

-- ---- going on

le-of-lt-one : (i n : ℕ) → i < n + 1 → i ≤ n
le-of-lt-one i n h = omega arith

pub go1 : (s : List ℕ) (at : ℕ) (q : Configuration) {r : Configuration} → at < length s → step q (get_or s at 0) ≡ r → Goes s at q (at + 1) r
go1 s at q {r} h e = let g : Goes s (at + 1) (step q (get_or s at 0)) (at + 1) r = rw e here in on h g

pub space-go : (s : List ℕ) (at : ℕ) (stack : List ℕ) → at < length s → class_of (get_or s at 0) ≡ 0 → Goes s at (between stack) (at + 1) (between stack)
space-go s at stack h e = go1 s at (between stack) h (step-space _ stack e)

pub trans : {s : List ℕ} {a b c : ℕ} {q r t : Configuration} → Goes s a q b r → Goes s b r c t → Goes s a q c t
trans here k = k
trans (on h g) k = on h (trans g k)

pub stuck-after : {s : List ℕ} {a b p : ℕ} {q r : Configuration} → a ≤ b → Goes s a q b r → Stuck s b r p → Stuck s a q p
stuck-after l g k =
    record {
      from = omega (arith, k.from);
      to = k.to;
      state = k.state;
      goes = trans g k.goes;
      alive = k.alive;
      stop = k.stop;
      early = k.early;
    }

-- where the automaton is alive, something is open or a tag is begun, and it takes no byte there
pub stuck-in : {s : List ℕ} {at place : ℕ} {q : Configuration} (r : Configuration) → at ≤ place → place ≤ length s → Goes s at q place r → Alive r →
    nothing_open r ≡ false → (place < length s → step r (get_or s place 0) ≡ dead) → Stuck s at q place
stuck-in r from to goes alive some stop =
    record {
      from = from;
      to = to;
      state = r;
      goes = goes;
      alive = alive;
      stop = stop;
      early = λ e f. let z : true ≡ false = ap nothing_open (sym f) ∙ some in clash (cc);
    }

-- what holds from a place on up to i, and at i, holds up to i + 1
pub one_more :
    (s : List ℕ) {at next : ℕ} → ((i : ℕ) → at ≤ i → i < next → class_of (get_or s i 0) ≡ 0) → class_of (get_or s next 0) ≡ 0 →
    (i : ℕ) → at ≤ i → i < next + 1 → class_of (get_or s i 0) ≡ 0
one_more s {at} {next} h k i l m = go (eqb i next) refl
  where
    go : (t : Bool) → eqb i next ≡ t → class_of (get_or s i 0) ≡ 0
    go true e = rw (eqb-true i next e) k
    go false e = h i l (let f = lt_of_le-ne (le-of-lt-one i next m) (eqb-false i next e) in f)

-- ---- classes at places

pub class-in : (s : List ℕ) (at k : ℕ) → class_at s at ≡ k → k < 6 → (at < length s) × (class_of (get_or s at 0) ≡ k)
unfolding class_at
class-in s at k e l = go (ltb at (length s)) refl e
  where
    go : (t : Bool) → ltb at (length s) ≡ t → pick t (class_of (get_or s at 0)) 6 ≡ k → (at < length s) × (class_of (get_or s at 0) ≡ k)
    go true h f = (ltb-true at (length s) h, f)
    go false h f = absurd (omega arith)

pub class-of-at : (s : List ℕ) (at : ℕ) → at < length s → class_at s at ≡ class_of (get_or s at 0)
unfolding class_at
class-of-at s at h = rw (lt-ltb at (length s) h)

pub byte-is : (s : List ℕ) (at b : ℕ) → at < length s → IsByte s at b (eqb (get_or s at 0) b)
byte-is s at b h = go (eqb (get_or s at 0) b) refl
  where
    go : (t : Bool) → eqb (get_or s at 0) b ≡ t → IsByte s at b t
    go true e = (h, eqb-true _ _ e)
    go false e = λ l. eqb-false _ _ e

-- ---- bytes that are not taken

none_of : (c : ℕ) (s d l f g : Configuration) → (c ≡ 0 → s ≡ dead) → (c ≡ 1 → d ≡ dead) → (c ≡ 2 → l ≡ dead) → (c ≡ 3 → f ≡ dead) → (c ≡ 4 → g ≡ dead) → by_class c s d l f g ≡ dead
none_of zero s d l f g hs hd hl hf hg = hs refl
none_of (suc zero) s d l f g hs hd hl hf hg = hd refl
none_of (suc (suc zero)) s d l f g hs hd hl hf hg = hl refl
none_of (suc (suc (suc zero))) s d l f g hs hd hl hf hg = hf refl
none_of (suc (suc (suc (suc zero)))) s d l f g hs hd hl hf hg = hg refl
none_of (suc (suc (suc (suc (suc n))))) s d l f g hs hd hl hf hg = refl

pub between-dead : (b : ℕ) (stack : List ℕ) → (class_of b ≡ 0 → ⊥) → (class_of b ≡ 2 → ⊥) → step (between stack) b ≡ dead
unfolding step
between-dead b stack hs hl = none_of (class_of b) _ _ _ _ _ (λ e. absurd (hs e)) (λ e. refl) (λ e. absurd (hl e)) (λ e. refl) (λ e. refl)

pub tag-dead : (b : ℕ) (stack : List ℕ) → (class_of b ≡ 1 → ⊥) → (class_of b ≡ 3 → ⊥) → step (tag stack) b ≡ dead
unfolding step
tag-dead b stack hd hf = none_of (class_of b) _ _ _ _ _ (λ e. refl) (λ e. absurd (hd e)) (λ e. refl) (λ e. absurd (hf e)) (λ e. refl)

pub root-dead : (b : ℕ) → (class_of b ≡ 1 → ⊥) → step (tag []) b ≡ dead
unfolding step
root-dead b hd = none_of (class_of b) _ _ _ _ _ (λ e. refl) (λ e. absurd (hd e)) (λ e. refl) (λ e. refl) (λ e. refl)

pub one-dead : (b d : ℕ) (stack : List ℕ) → (class_of b ≡ 1 → d ≡ 0) → (class_of b ≡ 4 → ⊥) → step (one d stack) b ≡ dead
unfolding step
one-dead b d stack hd hg = none_of (class_of b) _ _ _ _ _ (λ e. refl) (λ e. rw (eq-eqb d 0 (hd e))) (λ e. refl) (λ e. refl) (λ e. absurd (hg e))

pub two-dead : (b n : ℕ) (stack : List ℕ) → (class_of b ≡ 4 → ⊥) → step (two n stack) b ≡ dead
unfolding step
two-dead b n stack hg = none_of (class_of b) _ _ _ _ _ (λ e. refl) (λ e. refl) (λ e. refl) (λ e. refl) (λ e. absurd (hg e))

pub closing-dead : (b c : ℕ) (rest stack : List ℕ) → (b ≡ c → ⊥) → step (closing (c ∷ rest) stack) b ≡ dead
unfolding step
closing-dead b c rest stack h = rw (ne_eqb b c h)
