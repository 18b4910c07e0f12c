-- Two walks of one automaton on one tree, by W7: with the smaller budget the log is the beginning of the other's.
-- Assumes nothing.
use Rattle.std.proofs.Common.{Option, Some, None}
use Prim.Native.Nat.{ℕ, zero, suc, ◌+◌, ◌*◌, ◌≤◌}
use native.Mathlib.Omega.{arith}
use mathlib.Core.Path.{◌≡◌, refl, sym, ap, ◌∙◌}
use mathlib.Core.Bool.{Bool, true, false}
use mathlib.Core.List.{List, [], ◌∷◌}
use lib.Dec.{eqb}
use lib.ListN.{length, take, length-take}
use lib.Seq.{take-length}
use Rattle.model.specs.Trees.{Tree}
use Rattle.algorithms.specs.Automaton.{Automaton}
use Rattle.steps.specs.Successors.{successor}
use Rattle.steps.specs.declared.Configuration.{Configuration}
use Rattle.watch.specs.Walk.{Entry, Walk, ends, logged, passes, most_steps, in_order, walk_from, bytes_of}
use Rattle.watch.specs.declared.Watched.{Watched}
use Rattle.watch.proofs.Logs.{bytes-length}
use Rattle.agreement.specs.Common.{common_entries, common_part}
use Rattle.agreement.specs.Longest.{Agrees}
use Rattle.agreement.proofs.Agreeing.{common-longest}

-- the entries are the first of the others
abbrev pub Opens : (es fs : List Entry) → Type 0
Opens es fs = take (length es) fs ≡ es

module _ (A : Automaton) (t : Tree) where
  -- a turn is the same, but for what comes after it
  turn : (made i p : ℕ) (b : Bool) (y : Option Configuration) (c : Bool) (f g : ℕ → ℕ → Walk) → ((j q : ℕ) → Opens (f j q).entries (g j q).entries)
      → Opens (in_order b y c (ends made i p) f).entries (in_order b y c (ends made i p) g).entries
  turn made i p true y c f g h = refl
  turn made i p false None c f g h = refl
  turn made i p false (Some d) true f g h = refl
  turn made i p false (Some d) false f g h = h d.node d.state.0

  -- where it goes on, with so many of the budget left
  abbrev onward : (left made i p : ℕ) → ℕ → ℕ → Walk
  onward zero made i p j q = ends made i p Watched.Spent
  onward (suc left) made i p j q = logged i p (walk_from A t left (made + 1) j q)

  turns : (less more made i p : ℕ) → ((j q : ℕ) → Opens (onward less made i p j q).entries (onward more made i p j q).entries)
      → Opens (walk_from A t less made i p).entries (walk_from A t more made i p).entries
  unfolding walk_from
  turns less more made i p h = by less more (turn made i p (passes A i p) (successor A t i p) (eqb made (most_steps A t)) (onward less made i p) (onward more made i p) h)
    where
      entries : (left : ℕ) → List Entry
      entries left = (in_order (passes A i p) (successor A t i p) (eqb made (most_steps A t)) (ends made i p) (onward left made i p)).entries

      by : (less more : ℕ) → Opens (entries less) (entries more) → Opens (walk_from A t less made i p).entries (walk_from A t more made i p).entries
      by zero zero e = e
      by zero (suc more) e = e
      by (suc less) zero e = e
      by (suc less) (suc more) e = e

  pub smaller-opens : (less more made i p : ℕ) → less ≤ more → Opens (walk_from A t less made i p).entries (walk_from A t more made i p).entries
  smaller-opens zero zero made i p l = turns 0 0 made i p (λ j q. refl)
  smaller-opens zero (suc more) made i p l = turns 0 (suc more) made i p (λ j q. refl)
  smaller-opens (suc less) zero made i p l = absurd (omega arith)
  smaller-opens (suc less) (suc more) made i p l =
      turns (suc less) (suc more) made i p (λ j q. ap (λ (es : List Entry). (i, p) ∷ es) (smaller-opens less more (made + 1) j q (omega arith)))

-- ---- so are the bytes

bytes_take : (n : ℕ) (es : List Entry) → take (3 * n) (bytes_of es) ≡ bytes_of (take n es)
unfolding bytes_of
bytes_take zero es = refl
bytes_take (suc n) [] = let a : 3 * suc n ≡ suc (suc (suc (3 * n))) = omega arith in rw a
bytes_take (suc n) (e ∷ es) = let a : 3 * suc n ≡ suc (suc (suc (3 * n))) = omega arith in rw (a, bytes_take n es)

pub opens-part : (es fs : List Entry) → Opens es fs → common_part (bytes_of es) (bytes_of fs) ≡ bytes_of es
opens-part es fs h =
    let a = bytes_of es in
    let b = bytes_of fs in
    let n = bytes-length es in
    let within : length es ≤ length fs = omega (arith, ap length h, length-take (length es) fs) in
    let all : take (3 * length es) a ≡ a = ap (λ (k : ℕ). take k a) (sym n) ∙ take-length a in
    let l = common-longest a b in
    let agrees : Agrees a b (length es) =
    record { in_first = omega (arith, n); in_second = omega (arith, bytes-length fs); same = all ∙ sym (bytes_take (length es) fs ∙ ap bytes_of h) } in
    let whole : common_entries a b ≡ length es = omega (arith, n, l.agrees.in_first, l.longest (length es) agrees) in
    ap (λ (k : ℕ). take (3 * k) a) whole ∙ all
