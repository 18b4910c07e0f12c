-- Laws of the number of blocks of a file, of the first file, and of the batch. Assumes nothing.
use Rattle.std.proofs.Common.{Result, Ok, Err}
use Prim.Native.Nat.{ℕ, zero, suc, ◌+◌, ◌*◌, ◌/◌, ◌≤◌, ◌<◌}
use mathlib.Core.Path.{◌≡◌, refl}
use mathlib.Core.Bool.{Bool, true, false, cond, ◌&&◌}
use mathlib.Core.List.{List}
use native.Mathlib.Omega.{arith}
use borrow.Author.Tests.{ltb-false, eq-eqb, ne_eqb, lt-ltb, le-ltb, le-leb, lt-leb}
use lib.Dec.{eqb, ltb, leb}
use lib.ListN.{length, take, length-drop}
use Rattle.blocks.specs.Blocks.{half_at, content}
use Rattle.refusal.specs.declared.Refusal.{Refusal}
use Rattle.refusal.proofs.Passed.{clash}
use Rattle.automaton.specs.File.{parsed}
use Rattle.algorithms.specs.Automaton.{Automaton}
use Rattle.automaton.specs.declared.Header.{Header}
use Rattle.transitions.specs.Transitions.{automaton_of}
use Rattle.membership.specs.Judged.{judged_by}
use Rattle.membership.specs.declared.Answer.{Answer}
use Rattle.tally.specs.Tally.{counted_up}
use Rattle.tally.specs.declared.Tally.{Tally}
use Rattle.tally.specs.declared.Outcome.{Outcome}
use Rattle.batch.specs.Batch.{blocks_of, file_blocks, first_length, judged_turn, cut_off, turn_by, End, turn_of, passes, taken, next_in, rest_of, going_on, batch_within, batch_of, tallied_of}

-- ---- the length of a file

pub blocks-short : (first : List ℕ) → length first < 4 → 1 ≡ file_blocks first
unfolding file_blocks
blocks-short first h = rw (lt-leb 4 (length first) h) refl

module _ (first : List ℕ) (header : 4 ≤ length first) (n : ℕ) (e : n ≡ half_at first 2) where
  pub blocks-many : 4096 < n → 1 ≡ file_blocks first
  unfolding file_blocks
  blocks-many h = rw (le-leb 4 (length first) header, lt-leb (half_at first 2) 4096 (rw e at h)) refl

  pub blocks-few : n ≤ 4096 → (n + 511) / 508 ≡ file_blocks first
  unfolding file_blocks
  blocks-few h =
      let sum : n + 511 ≡ 4 + half_at first 2 + 507 = omega (arith, e) in
      rw (le-leb 4 (length first) header, le-leb (half_at first 2) 4096 (rw e at h), sum) refl

some-blocks : (few : Bool) (n : ℕ) → 1 ≤ blocks_of few n
some-blocks true n = omega arith
some-blocks false n = omega arith

pub some_block : (s : List ℕ) → 1 ≤ file_blocks s
unfolding file_blocks
some_block s = some-blocks (leb 4 (length s) && leb (half_at s 2) 4096) (half_at s 2)

pub told-length : (s f : List ℕ) (b : ℕ) → f ≡ take 512 s → b ≡ file_blocks f → 512 * b ≡ first_length s
told-length s f b e g = rw (g, e) refl

-- ---- the first file

module _ (A : Automaton) (s : List ℕ) where
  pub turn-none : length s ≡ 0 → End ≡ turn_of A s
  unfolding turn_of
  turn-none e = rw (eq-eqb (length s) 0 e) refl

  pub turn-stops : (length s ≡ 0 → ⊥) → length s < first_length s → cut_off ≡ turn_of A s
  unfolding turn_of
  turn-stops e l = rw (ne_eqb (length s) 0 e, lt-ltb (length s) (first_length s) l) refl

  pub turn-whole : (length s ≡ 0 → ⊥) → first_length s ≤ length s → judged_turn (judged_by A (take (first_length s) s)) ≡ turn_of A s
  unfolding turn_of
  turn-whole e l = rw (ne_eqb (length s) 0 e, le-ltb (length s) (first_length s) l) refl

-- a batch that goes on has read a whole file
and_none : (b : Bool) → (b && false) ≡ false
and_none true = refl
and_none false = refl

more_by : (a b : Bool) (t : Tally) (x : Result Answer Refusal) → (taken t (turn_by a b x)).more ≡ true → b ≡ false
more_by true b t x e = clash (cc)
more_by false true t x e = clash (cc (and_none (passes (counted_up t Outcome.Refused).check)))
more_by false false t x e = refl

pub more-whole : (A : Automaton) (t : Tally) (s : List ℕ) → (next_in A t s).more ≡ true → first_length s ≤ length s
unfolding next_in turn_of
more-whole A t s e = ltb-false _ _ (more_by (eqb (length s) 0) (ltb (length s) (first_length s)) t (judged_by A (take (first_length s) s)) e)

-- ---- the batch

pub rest-shorter : (s : List ℕ) → first_length s ≤ length s → length (rest_of s) + 512 ≤ length s
rest-shorter s l = simp length-drop (omega (arith, some_block (take 512 s)))

goes_by : (m : Bool) (u a b : Tally) → (m ≡ true → a ≡ b) → cond m a u ≡ cond m b u
goes_by true u a b f = f refl
goes_by false u a b f = refl

enough : (n m : ℕ) (A : Automaton) (t : Tally) (s : List ℕ) → length s < n → length s < m → batch_within n A t s ≡ batch_within m A t s
unfolding batch_within
enough zero m A t s l k = absurd (omega arith)
enough (suc n) zero A t s l k = absurd (omega arith)
enough (suc n) (suc m) A t s l k =
    goes_by (next_in A t s).more (next_in A t s).tally _ _
    (λ e. let shorter = rest-shorter s (more-whole A t s e) in enough n m A (next_in A t s).tally (rest_of s) (omega arith) (omega arith))

-- the batch is the first file, and what follows where the batch goes on
pub batch-next : (A : Automaton) (t : Tally) (s : List ℕ) → batch_of A t s ≡ going_on (next_in A t s) (batch_of A (next_in A t s).tally (rest_of s))
unfolding batch_within batch_of
batch-next A t s =
    goes_by (next_in A t s).more (next_in A t s).tally _ _
    (λ e. let shorter = rest-shorter s (more-whole A t s e) in enough (length s) (suc (length (rest_of s))) A (next_in A t s).tally (rest_of s) (omega arith) (omega arith))

-- ---- over an automaton's file

pub tallied-refused : (w trees : List ℕ) (t : Tally) (r : Refusal) → parsed w ≡ Err r → record { tally = t; check = Err r } ≡ tallied_of w trees t
unfolding tallied_of
tallied-refused w trees t r e = rw e refl

pub tallied-read : (w trees : List ℕ) (t u : Tally) (h : Header) → parsed w ≡ Ok h → u ≡ batch_of (automaton_of h (content w)) t trees
    → record { tally = u; check = Ok tt } ≡ tallied_of w trees t
unfolding tallied_of
tallied-read w trees t u h e f = rw (e, f) refl
