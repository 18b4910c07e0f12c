-- The pushdown automaton reads exactly the texts, and is alive exactly where a continuation could be right.
-- Assumes nothing.
use Prim.Native.Nat.{ℕ, zero, suc, ◌+◌, ◌-◌, ◌*◌, ◌/◌, ◌%◌, ◌<◌, ◌≤◌}
use native.Mathlib.Omega.{arith}
use native.Mathlib.Nat.{pos_of_ne-zero}
use mathlib.Core.Path.{◌≡◌, refl, sym, ap, ◌∙◌}
use mathlib.Core.Bool.{Bool, true, false}
use mathlib.Core.List.{List, [], ◌∷◌, ◌++◌, append_assoc, append-nil}
use lib.Dec.{eqb, ltb}
use borrow.Author.Tests.{eq-eqb, ne_eqb, ltb-true, ltb-false, eqb-true, eqb-false, lt-ltb, le-ltb}
use Rattle.tags.specs.Classes.{class_of}
use Rattle.tags.proofs.ClassLaws.{digit-class, class-digit, class-less, class-slash, class-greater}
use Rattle.grammar.specs.Grammar.{Elements, empty, element, Spaces, none, more, digits_if, written, open_tag, close_tag, Writes, blank, tagged, OneOrMore, Begins}
use Rattle.grammar.specs.Pushdown.{Configuration, between, tag, one, two, closing, dead, step, steps, by_class, closing_of, closing_on, next_if, Alive}

-- ---- a run's text leads from between to between

pub steps-append : (q : Configuration) (x y : List ℕ) → steps q (x ++ y) ≡ steps (steps q x) y
unfolding steps
steps-append q [] y = refl
steps-append q (b ∷ x) y = steps-append (step q b) x y

pub step-space : (b : ℕ) (stack : List ℕ) → class_of b ≡ 0 → step (between stack) b ≡ between stack
unfolding step
step-space b stack e = rw e

steps_on : (q : Configuration) (b : ℕ) {r : Configuration} (s : List ℕ) → step q b ≡ r → steps q (b ∷ s) ≡ steps r s
unfolding steps
steps_on q b s e = ap (λ (q : Configuration). steps q s) e

spaces-steps : (stack : List ℕ) {s : List ℕ} (y : List ℕ) → Spaces s → steps (between stack) (s ++ y) ≡ steps (between stack) y
unfolding steps
spaces-steps stack y none = refl
spaces-steps stack y (more b {s} e h) = steps_on (between stack) b (s ++ y) (step-space b stack e) ∙ spaces-steps stack y h

pub step_less : (stack : List ℕ) → step (between stack) 60 ≡ tag stack
unfolding step class_of
step_less stack = refl

pub step-digit : (d : ℕ) (stack : List ℕ) → d < 10 → step (tag stack) (48 + d) ≡ one d stack
unfolding step
step-digit d stack h = rw (digit-class d h) (ap (λ (k : ℕ). one k stack) (omega arith))

zero_or : (d : ℕ) → (d ≡ 0 → ⊥) → eqb d 0 ≡ false
zero_or d h = ne_eqb d 0 h

pub step-second : (d e : ℕ) (stack : List ℕ) → (d ≡ 0 → ⊥) → e < 10 → step (one d stack) (48 + e) ≡ two (10 * d + e) stack
unfolding step
step-second d e stack h k = rw (digit-class e k, zero_or d h) (ap (λ (m : ℕ). two m stack) (omega arith))

pub step-one-end : (d : ℕ) (stack : List ℕ) → step (one d stack) 62 ≡ between (d ∷ stack)
unfolding step class_of
step-one-end d stack = refl

pub step-two-end : (n : ℕ) (stack : List ℕ) → step (two n stack) 62 ≡ between (n ∷ stack)
unfolding step class_of
step-two-end n stack = refl

pub step-slash : (n : ℕ) (stack : List ℕ) → step (tag (n ∷ stack)) 47 ≡ closing (written n ++ (62 ∷ [])) stack
unfolding step class_of
step-slash n stack = refl

pub step-closing : (c : ℕ) (rest stack : List ℕ) → step (closing (c ∷ rest) stack) c ≡ closing_on rest stack
unfolding step
step-closing c rest stack = rw (eq-eqb c c refl)

pub open-steps : (stack : List ℕ) (n : ℕ) (y : List ℕ) → n < 100 → steps (between stack) (open_tag n ++ y) ≡ steps (between (n ∷ stack)) y
unfolding open_tag written steps
open-steps stack n y h = go (ltb n 10) refl
  where
    go : (t : Bool) → ltb n 10 ≡ t → steps (between stack) (60 ∷ ((digits_if t n ++ (62 ∷ [])) ++ y)) ≡ steps (between (n ∷ stack)) y
    go true e = rw (step_less, step-digit n stack (ltb-true n 10 e), step-one-end)
    go false e =
        let k : 10 ≤ n = ltb-false n 10 e in
        let m : 10 * (n / 10) + n % 10 ≡ n = omega arith in
        rw (step_less, step-digit (n / 10) stack (omega arith), step-second (n / 10) (n % 10) stack (λ z. omega arith) (omega arith), step-two-end, m)

pub close-steps : (stack : List ℕ) (n : ℕ) (y : List ℕ) → steps (between (n ∷ stack)) (close_tag n ++ y) ≡ steps (between stack) y
unfolding close_tag written steps
close-steps stack n y = go (ltb n 10) refl
  where
    go : (t : Bool) → ltb n 10 ≡ t → steps (between (n ∷ stack)) (60 ∷ 47 ∷ ((digits_if t n ++ (62 ∷ [])) ++ y)) ≡ steps (between stack) y
    go true e =
        let w : step (tag (n ∷ stack)) 47 ≡ closing (digits_if true n ++ (62 ∷ [])) stack = step-slash n stack ∙ ap (λ (b : Bool). closing (digits_if b n ++ (62 ∷ [])) stack) e in
        rw (step_less, w, step-closing (48 + n), step-closing 62)
    go false e =
        let w : step (tag (n ∷ stack)) 47 ≡ closing (digits_if false n ++ (62 ∷ [])) stack = step-slash n stack ∙ ap (λ (b : Bool). closing (digits_if b n ++ (62 ∷ [])) stack) e in
        rw (step_less, w, step-closing (48 + n / 10), step-closing (48 + n % 10), step-closing 62)

pub run-steps : {x : List ℕ} {r : Elements} (stack y : List ℕ) → Writes x r → steps (between stack) (x ++ y) ≡ steps (between stack) y
run-steps stack y (blank h) = spaces-steps stack y h
run-steps stack y (tagged {s = s} {x = x} {y = z} n h k wx wz) =
    simp append_assoc
    (spaces-steps stack _ h ∙ open-steps stack n _ k ∙ run-steps (n ∷ stack) _ wx ∙ close-steps stack n _ ∙ run-steps stack y wz)

-- a text leads from the start to the start
pub text-steps : {s : List ℕ} {r : Elements} → Writes s r → steps (between []) s ≡ between []
unfolding steps
text-steps {s} w = rw (← append-nil s) (run-steps [] [] w)

-- ---- a prefix that the automaton reads begins a text

-- one space more
space-after : (b : ℕ) {x : List ℕ} {r : Elements} → class_of b ≡ 0 → Writes x r → Writes (x ++ (b ∷ [])) r
space-after b e (blank h) = blank (spaces-after h)
  where
    spaces-after : {s : List ℕ} → Spaces s → Spaces (s ++ (b ∷ []))
    spaces-after none = more b e none
    spaces-after (more c k h) = more c k (spaces-after h)
space-after b e (tagged n h k wx wy) = simp append_assoc (tagged n h k wx (space-after b e wy))

-- one element more
element-after :
    (n : ℕ) {x y : List ℕ} {r q : Elements} → n < 100 → Writes x r → Writes y q →
    (r' : Elements) × Writes (x ++ (open_tag n ++ (y ++ close_tag n))) r' × OneOrMore r'
element-after n {q = q} k (blank h) wy =
    (element n q empty, rw (← append-nil (close_tag n)) (tagged n h k wy (blank none)), tt)
element-after n k (tagged m {inside = i} h l wx wz) wy =
    let e = element-after n k wz wy in
    (element m i e.0, simp append_assoc (tagged m h l wx e.1), tt)

-- what stands before a place outside tags: runs, each but the first after an opening tag
data Opened : List ℕ → List ℕ → Type 0 where
  root : {x : List ℕ} {r : Elements} → Writes x r → Opened x []
  within : {p x stack : List ℕ} {r : Elements} (n : ℕ) → n < 100 → Opened p stack → Writes x r → Opened (p ++ (open_tag n ++ x)) (n ∷ stack)

opened-space : (b : ℕ) {p stack : List ℕ} → class_of b ≡ 0 → Opened p stack → Opened (p ++ (b ∷ [])) stack
opened-space b e (root w) = root (space-after b e w)
opened-space b e (within n k o w) = simp append_assoc (within n k o (space-after b e w))

opened-open : (n : ℕ) {p stack : List ℕ} → n < 100 → Opened p stack → Opened (p ++ open_tag n) (n ∷ stack)
opened-open n k o = rw (← append-nil (open_tag n)) (within n k o (blank none))

opened-close : {n : ℕ} {p stack : List ℕ} → Opened p (n ∷ stack) → Opened (p ++ close_tag n) stack
opened-close (within n k (root w) wx) = simp append_assoc (root (element-after n k w wx).1)
opened-close (within n k (within m l o w) wx) = simp append_assoc (within m l o (element-after n k w wx).1)

-- what the bytes read so far say of the state
abbrev Reached : List ℕ → Configuration → Type 0
Reached p (between stack) = Opened p stack
Reached p (tag stack) = (p' : List ℕ) × Opened p' stack × (p ≡ p' ++ (60 ∷ []))
Reached p (one d stack) = (p' : List ℕ) × Opened p' stack × (d < 10) × (p ≡ p' ++ (60 ∷ (48 + d) ∷ []))
Reached p (two n stack) = (p' : List ℕ) × Opened p' stack × (n < 100) × (p ++ (62 ∷ []) ≡ p' ++ open_tag n)
Reached p (closing rest stack) = (p' : List ℕ) × (n : ℕ) × Opened p' (n ∷ stack) × (p ++ rest ≡ p' ++ close_tag n)
Reached p dead = Unit

by-class :
    (P : Configuration → Type 0) (c : ℕ) (s d l f g : Configuration) → P dead →
    (c ≡ 0 → P s) → (c ≡ 1 → P d) → (c ≡ 2 → P l) → (c ≡ 3 → P f) → (c ≡ 4 → P g) → P (by_class c s d l f g)
by-class P zero s d l f g x hs hd hl hf hg = hs refl
by-class P (suc zero) s d l f g x hs hd hl hf hg = hd refl
by-class P (suc (suc zero)) s d l f g x hs hd hl hf hg = hl refl
by-class P (suc (suc (suc zero))) s d l f g x hs hd hl hf hg = hf refl
by-class P (suc (suc (suc (suc zero)))) s d l f g x hs hd hl hf hg = hg refl
by-class P (suc (suc (suc (suc (suc n))))) s d l f g x hs hd hl hf hg = x

pub open-short : (d : ℕ) → d < 10 → open_tag d ≡ 60 ∷ (48 + d) ∷ 62 ∷ []
unfolding open_tag written
open-short d h = rw (lt-ltb d 10 h)

pub open-long : (n d e : ℕ) → 10 ≤ n → n / 10 ≡ d → n % 10 ≡ e → open_tag n ≡ 60 ∷ (48 + d) ∷ (48 + e) ∷ 62 ∷ []
unfolding open_tag written
open-long n d e h k l = rw (le-ltb n 10 h, k, l)

second-digit :
    (p : List ℕ) (d : ℕ) (stack : List ℕ) (b : ℕ) → Reached p (one d stack) → class_of b ≡ 1 →
    (t : Bool) → eqb d 0 ≡ t → Reached (p ++ (b ∷ [])) (next_if t dead (two (10 * d + (b - 48)) stack))
second-digit p d stack b h e true k = tt
second-digit p d stack b h e false k =
    let c = class-digit b e in
    let f : d ≡ 0 → ⊥ = eqb-false d 0 k in
    let g : 0 < d = pos_of_ne-zero f in
    let m : 48 + (b - 48) ≡ b = omega arith in
    let o = open-long (10 * d + (b - 48)) d (b - 48) (omega arith) (omega arith) (omega arith) in
    (h.0, h.1, omega arith, rw (h.3, o, m) (simp append_assoc))

closing-byte :
    (p : List ℕ) (c : ℕ) (rest stack : List ℕ) (b : ℕ) → Reached p (closing (c ∷ rest) stack) →
    (t : Bool) → eqb b c ≡ t → Reached (p ++ (b ∷ [])) (next_if t (closing_on rest stack) dead)
closing-byte p c [] stack b h true e = rw (eqb-true b c e, h.3) (opened-close h.2)
closing-byte p c (a ∷ rest) stack b h true e = (h.0, h.1, h.2, rw (eqb-true b c e) (simp append_assoc h.3))
closing-byte p c rest stack b h false e = tt

-- one byte more
reached-step : (p : List ℕ) (q : Configuration) (b : ℕ) → Reached p q → Reached (p ++ (b ∷ [])) (step q b)
unfolding step close_tag
reached-step p (between stack) b h =
    by-class (Reached (p ++ (b ∷ []))) (class_of b) (between stack) dead (tag stack) dead dead tt
    (λ e. opened-space b e h) (λ e. tt) (λ e. (p, h, rw (class-less b e))) (λ e. tt) (λ e. tt)
reached-step p (tag stack) b h =
    by-class (Reached (p ++ (b ∷ []))) (class_of b) dead (one (b - 48) stack) dead (closing_of stack) dead tt
    (λ e. tt)
    (λ e.
    let k = class-digit b e in
    let m : 48 + (b - 48) ≡ b = omega arith in
    (h.0, h.1, omega arith, rw (h.2, m, append_assoc)))
    (λ e. tt)
    (λ e. close stack h.0 h.1 h.2 (class-slash b e))
    (λ e. tt)
  where
    close : (st : List ℕ) (p' : List ℕ) → Opened p' st → p ≡ p' ++ (60 ∷ []) → b ≡ 47 → Reached (p ++ (b ∷ [])) (closing_of st)
    close [] p' o e k = tt
    close (n ∷ st) p' o e k = (p', n, o, rw (e, k) (simp append_assoc))
reached-step p (one d stack) b h =
    by-class (Reached (p ++ (b ∷ []))) (class_of b) dead (next_if (eqb d 0) dead (two (10 * d + (b - 48)) stack)) dead dead (between (d ∷ stack)) tt
    (λ e. tt)
    (λ e. second-digit p d stack b h e (eqb d 0) refl)
    (λ e. tt)
    (λ e. tt)
    (λ e.
    let o : p ++ (b ∷ []) ≡ h.0 ++ open_tag d = rw (class-greater b e, h.3, open-short d h.2) (simp append_assoc) in
    rw o (opened-open d (omega arith) h.1))
reached-step p (two n stack) b h =
    by-class (Reached (p ++ (b ∷ []))) (class_of b) dead dead dead dead (between (n ∷ stack)) tt
    (λ e. tt)
    (λ e. tt)
    (λ e. tt)
    (λ e. tt)
    (λ e. rw (class-greater b e, h.3) (opened-open n h.2 h.1))
reached-step p (closing [] stack) b h = tt
reached-step p (closing (c ∷ rest) stack) b h = closing-byte p c rest stack b h (eqb b c) refl
reached-step p dead b h = tt

reached-steps : (p : List ℕ) (q : Configuration) (s : List ℕ) → Reached p q → Reached (p ++ s) (steps q s)
unfolding steps
reached-steps p q [] h = rw (append-nil p) h
reached-steps p q (b ∷ s) h =
    let r = reached-steps (p ++ (b ∷ [])) (step q b) s (reached-step p q b h) in
    rw append_assoc at r

-- ---- a state that is alive can be completed

pub begins-less : (p c : List ℕ) → Begins (p ++ c) → Begins p
begins-less p c h = record { rest = c ++ h.rest; run = h.run; text = rw append_assoc at h.text }

-- a run's text, with an element more, is a text
begins-run : {p : List ℕ} {r : Elements} → Writes p r → Begins p
begins-run w =
    let e = element-after 0 (omega arith) w (blank none) in
    record { rest = open_tag 0 ++ ([] ++ close_tag 0); run = e.0; text = record { writes = e.1; some = e.2 } }

begins-opened : (stack : List ℕ) {p : List ℕ} → Opened p stack → Begins p
begins-opened [] (root w) = begins-run w
begins-opened (n ∷ stack) {p} o = begins-less p (close_tag n) (begins-opened stack (opened-close o))

begins-alive : (p : List ℕ) (q : Configuration) → Reached p q → Alive q → Begins p
begins-alive p (between stack) h a = begins-opened stack h
begins-alive p (tag stack) h a =
    begins-less p (48 ∷ 62 ∷ [])
    (rw (h.2, append_assoc, ← open-short 0 (omega arith)) (begins-opened (0 ∷ stack) (opened-open 0 (omega arith) h.1)))
begins-alive p (one d stack) h a =
    begins-less p (62 ∷ [])
    (rw (h.3, append_assoc, ← open-short d h.2) (begins-opened (d ∷ stack) (opened-open d (omega arith) h.1)))
begins-alive p (two n stack) h a =
    begins-less p (62 ∷ []) (rw h.3 (begins-opened (n ∷ stack) (opened-open n h.2 h.1)))
begins-alive p (closing rest stack) h a =
    begins-less p rest (rw h.3 (begins-opened stack (opened-close h.2)))
begins-alive p dead h a = absurd a

start : Reached [] (between [])
start = root (blank none)

-- the automaton is alive after p: p begins a text
pub alive-begins : (p : List ℕ) → Alive (steps (between []) p) → Begins p
alive-begins p a = begins-alive p (steps (between []) p) (reached-steps [] (between []) p start) a

-- it is between tags with nothing open: p is a run's text
pub between-writes : (p : List ℕ) → steps (between []) p ≡ between [] → (r : Elements) × Writes p r
between-writes p e = go p (rw e at (reached-steps [] (between []) p start))
  where
    go : (q : List ℕ) → Opened q [] → (r : Elements) × Writes q r
    go q (root {r = r} w) = (r, w)

dead-steps : (s : List ℕ) → steps dead s ≡ dead
unfolding steps step
dead-steps [] = refl
dead-steps (b ∷ s) = dead-steps s

-- it is dead after p: no continuation is right
pub dead-begins : (p : List ℕ) → steps (between []) p ≡ dead → Begins p → ⊥
dead-begins p e h =
    let a : steps (between []) (p ++ h.rest) ≡ between [] = text-steps h.text.writes in
    let z = sym a ∙ steps-append (between []) p h.rest ∙ ap (λ (q : Configuration). steps q h.rest) e ∙ dead-steps h.rest in
    let o : ◌≡◌ {A = ℕ} 0 1 = cc in
    omega arith
