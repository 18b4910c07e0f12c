-- The class of each byte of a tag, and the byte or the bytes of each class.
-- Assumes nothing.
use Prim.Native.Nat.{ℕ, zero, suc, ◌+◌, ◌<◌, ◌≤◌}
use native.Mathlib.Omega.{arith}
use mathlib.Core.Path.{◌≡◌, refl}
use mathlib.Core.Bool.{Bool, true, false, ◌&&◌, ◌||◌}
use lib.Dec.{eqb, leb}
use borrow.Author.Tests.{ne_eqb, le-leb, eqb-true, leb-true}
use Rattle.tags.specs.Classes.{class_of, pick}

pub digit-class : (d : ℕ) → d < 10 → class_of (48 + d) ≡ 1
unfolding class_of
digit-class d h =
    rw (
      ne_eqb (48 + d) 9 (λ e. omega arith),
      ne_eqb (48 + d) 10 (λ e. omega arith),
      ne_eqb (48 + d) 13 (λ e. omega arith),
      ne_eqb (48 + d) 32 (λ e. omega arith),
      le-leb 48 (48 + d) (omega arith),
      le-leb (48 + d) 57 (omega arith),
    )

picked : Bool → Bool → Bool → Bool → Bool → ℕ
picked s d l f g = pick s 0 (pick d 1 (pick l 2 (pick f 3 (pick g 4 5))))

abbrev Which : ℕ → Bool → Bool → Bool → Bool → Type 0
Which zero d l f g = Unit
Which (suc zero) d l f g = d ≡ true
Which (suc (suc zero)) d l f g = l ≡ true
Which (suc (suc (suc zero))) d l f g = f ≡ true
Which (suc (suc (suc (suc zero)))) d l f g = g ≡ true
Which (suc (suc (suc (suc (suc n))))) d l f g = Unit

which : (s d l f g : Bool) → Which (picked s d l f g) d l f g
unfolding picked
which true d l f g = tt
which false true l f g = refl
which false false true f g = refl
which false false false true g = refl
which false false false false true = refl
which false false false false false = tt

and-true : (a b : Bool) → a && b ≡ true → (a ≡ true) × (b ≡ true)
and-true true b e = (refl, e)
and-true false b e = let z : ◌≡◌ {A = ℕ} 0 1 = cc in absurd (omega arith)

which-of : (b : ℕ) → Which (class_of b) (leb 48 b && leb b 57) (eqb b 60) (eqb b 47) (eqb b 62)
unfolding class_of picked
which-of b = which (eqb b 9 || eqb b 10 || eqb b 13 || eqb b 32) (leb 48 b && leb b 57) (eqb b 60) (eqb b 47) (eqb b 62)

pub class-digit : (b : ℕ) → class_of b ≡ 1 → (48 ≤ b) × (b < 58)
class-digit b e =
    let h = and-true (leb 48 b) (leb b 57) (rw e at (which-of b)) in
    (leb-true 48 b h.0, let k = leb-true b 57 h.1 in omega arith)

pub class-less : (b : ℕ) → class_of b ≡ 2 → b ≡ 60
class-less b e = eqb-true b 60 (rw e at (which-of b))

pub class-slash : (b : ℕ) → class_of b ≡ 3 → b ≡ 47
class-slash b e = eqb-true b 47 (rw e at (which-of b))

pub class-greater : (b : ℕ) → class_of b ≡ 4 → b ≡ 62
class-greater b e = eqb-true b 62 (rw e at (which-of b))

-- a space is no `<`
pub space-less : (b : ℕ) → class_of b ≡ 0 → b ≡ 60 → ⊥
unfolding class_of
space-less b e f = let z : class_of 60 ≡ 0 = rw f at e in omega arith
