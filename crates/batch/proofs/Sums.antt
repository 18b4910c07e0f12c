-- The sums of growths, written one after another: a file more, and where it stands.
-- Assumes nothing.
use Prim.Native.Nat.{ℕ, zero, suc, ◌+◌, ◌<◌}
use native.Mathlib.Decide.{dec_lt}
use native.Mathlib.Numerals.{add-one}
use native.Mathlib.Omega.{arith}
use mathlib.Core.Path.{◌≡◌, refl, sym, ap, ◌∙◌}
use mathlib.Core.Bool.{true}
use mathlib.Core.List.{List, [], ◌∷◌}
use borrow.Author.Tests.{lt-ltb}
use lib.Dec.{ltb}
use lib.ListN.{length, set, take, drop}
use lib.Seq.{set_out, drop-drop}
use Rattle.algorithms.specs.Automaton.{Automaton}
use Rattle.membership.specs.Grown.{growth_by}
use Rattle.batch.specs.Batch.{first_length, rest_of}
use Rattle.batch.specs.Answers.{after_files, growths_after}

-- a number stored where there is room for it
pub stored-if : (l : List ℕ) (at v w : ℕ) → (ltb at (length l) ≡ true → v ≡ w) → set l at v ≡ set l at w
stored-if l at v w h = by (dec_lt at (length l))
  where
    by : Dec (at < length l) → set l at v ≡ set l at w
    by (yes b) = ap (set l at) (h (lt-ltb at (length l) b))
    by (no n) = set_out l at v (omega arith) ∙ sym (set_out l at w (omega arith))

after_next : (n : ℕ) (s : List ℕ) → after_files (suc n) s ≡ rest_of (after_files n s)
unfolding after_files
after_next zero s = refl
after_next (suc n) s = after_next n (rest_of s)

-- a file more
pub after_more : (n at size : ℕ) (s : List ℕ) → drop at s ≡ after_files n s → size ≡ first_length (drop at s) → drop (at + size) s ≡ after_files (n + 1) s
after_more n at size s e f =
    sym (drop-drop size at s) ∙ rw (f, e) (sym (after_next n s)) ∙ ap (λ (m : ℕ). after_files m s) (sym (add-one n))

pub nothing-after : (s : List ℕ) → drop 0 s ≡ after_files 0 s
unfolding after_files
nothing-after s = refl

pub no-sums : (A : Automaton) (s lent : List ℕ) → lent ≡ growths_after A 0 s lent
unfolding growths_after
no-sums A s lent = refl

put_next : (A : Automaton) (n : ℕ) (s lent : List ℕ)
    → set (growths_after A n s lent) n (growth_by A (take (first_length (after_files n s)) (after_files n s))) ≡ growths_after A (suc n) s lent
unfolding after_files growths_after
put_next A zero s [] = refl
put_next A zero s (x ∷ lent) = refl
put_next A (suc n) s [] = refl
put_next A (suc n) s (x ∷ lent) = ap (λ (l : List ℕ). growth_by A (take (first_length s) s) ∷ l) (put_next A n (rest_of s) lent)

pub sum_more : (A : Automaton) (n at size : ℕ) (s lent before after file : List ℕ) → before ≡ growths_after A n s lent → drop at s ≡ after_files n s
    → size ≡ first_length (drop at s) → file ≡ take size (drop at s) → after ≡ set before n (growth_by A file) → after ≡ growths_after A (n + 1) s lent
sum_more A n at size s lent before after file b d e f a =
    a ∙ rw (b, f, e, d) (put_next A n s lent) ∙ ap (λ (m : ℕ). growths_after A m s lent) (sym (add-one n))
