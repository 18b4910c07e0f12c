-- A batch that is read in pieces: what a full tally comes to, and that a tally grows. Assumes nothing.
use Rattle.std.proofs.Common.{Result}
use Prim.Native.Nat.{ℕ, ◌<◌, ◌≤◌}
use native.Mathlib.Omega.{arith}
use mathlib.Core.Path.{◌≡◌, refl, ap, ◌∙◌}
use mathlib.Core.Bool.{Bool, true, false, ◌&&◌}
use mathlib.Core.List.{List, [], ◌∷◌}
use borrow.Author.Tests.{leb-true, leb-false}
use lib.Dec.{leb}
use lib.ListN.{length, take}
use Rattle.blocks.specs.Blocks.{half_at}
use Rattle.refusal.proofs.Passed.{clash}
use Rattle.algorithms.specs.Automaton.{Automaton}
use Rattle.membership.specs.declared.Answer.{Answer}
use Rattle.tally.specs.Tally.{total, counted_up}
use Rattle.tally.specs.declared.Outcome.{Outcome}
use Rattle.tally.specs.declared.Tally.{Tally}
use Rattle.tally.specs.declared.Tallied.{Tallied}
use Rattle.tally.proofs.Counting.{counted-full, counted-one, one_more}
use Rattle.counting.specs.Counting.{outcome_numbered, counted_all}
use Rattle.batch.specs.Batch.{blocks_of, file_blocks, first_length, outcome_of, batch_of}
use Rattle.batch.specs.Answers.{answers_of, counted_answers}
use Rattle.batch.proofs.Counted.{batch-answers}
use Rattle.refusal.specs.declared.Refusal.{Refusal}

-- ---- a full tally stays, whatever follows

full-one : (t : Tally) (o : Outcome) → 1000000 ≤ total t → (counted_up t o).tally ≡ t
full-one t o h = ap (λ (x : Tallied). x.tally) (counted-full t o h)

full-answers : (t : Tally) (l : List (Result Answer Refusal)) → 1000000 ≤ total t → counted_answers t l ≡ t
full-answers t [] h = refl
full-answers t (a ∷ l) h = ap (λ (u : Tally). counted_answers u l) (full-one t (outcome_of a) h) ∙ full-answers t l h

pub full-stays : (A : Automaton) (t : Tally) (s : List ℕ) → 1000000 ≤ total t → batch_of A t s ≡ t
full-stays A t s h = batch-answers A t s ∙ full-answers t (answers_of A s) h

-- ---- a file has at most nine blocks

few-blocks : (few : Bool) (n : ℕ) → (few ≡ true → n ≤ 4096) → blocks_of few n ≤ 9
few-blocks true n h = omega (arith, h refl)
few-blocks false n h = omega arith

and_right : (a b : Bool) → (a && b) ≡ true → b ≡ true
and_right true b e = e
and_right false b e = clash (cc)

pub most_bytes : (s : List ℕ) → first_length s ≤ 4608
unfolding file_blocks
most_bytes s =
    let first = take 512 s in
    omega (arith, few-blocks (leb 4 (length first) && leb (half_at first 2) 4096) (half_at first 2) (λ e. leb-true (half_at first 2) 4096 (and_right (leb 4 (length first)) (leb (half_at first 2) 4096) e)))

-- ---- a tally that is not full grows by every answer

not-less : (t : Tally) (o : Outcome) → total t ≤ total (counted_up t o).tally
not-less t o = by (leb 1000000 (total t)) refl
  where
    by : (full : Bool) → leb 1000000 (total t) ≡ full → total t ≤ total (counted_up t o).tally
    by true e = rw (counted-full t o (leb-true 1000000 (total t) e)) (omega arith)
    by false e = rw (counted-one t o (leb-false 1000000 (total t) e)) (omega (arith, one_more t o))

all-not-less : (t : Tally) (l : List ℕ) → total t ≤ total (counted_all t l)
unfolding counted_all
all-not-less t [] = omega arith
all-not-less t (a ∷ []) = omega arith
all-not-less t (a ∷ number ∷ []) = omega arith
all-not-less t (a ∷ number ∷ place ∷ l) =
    omega (arith, not-less t (outcome_numbered a), all-not-less (counted_up t (outcome_numbered a)).tally l)

one_grows : (t : Tally) (o : Outcome) → total t < 1000000 → total t < total (counted_up t o).tally
one_grows t o h = rw (counted-one t o h) (omega (arith, one_more t o))

pub tally-grows : (t : Tally) (l : List ℕ) → total t < 1000000 → 3 ≤ length l → total t < total (counted_all t l)
unfolding counted_all
tally-grows t [] h k = absurd (omega (arith, k))
tally-grows t (a ∷ []) h k = absurd (omega (arith, k))
tally-grows t (a ∷ number ∷ []) h k = absurd (omega (arith, k))
tally-grows t (a ∷ number ∷ place ∷ l) h k =
    omega (arith, one_grows t (outcome_numbered a) h, all-not-less (counted_up t (outcome_numbered a)).tally l)
