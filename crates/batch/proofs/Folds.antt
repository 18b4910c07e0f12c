-- The batch of whole files is their answers, each counted in turn. Assumes nothing.
use Rattle.std.proofs.Common.{Result, Ok, Err}
use Prim.Native.Nat.{ℕ, ◌*◌, ◌≤◌}
use mathlib.Core.Path.{◌≡◌, refl, sym, ap, ◌∙◌}
use mathlib.Core.Bool.{Bool, true, false}
use mathlib.Core.List.{List, [], ◌∷◌, ◌++◌}
use native.Mathlib.Omega.{arith}
use lib.ListN.{length, take, length-append}
use lib.Seq.{take-append-le, take_at, drop_at}
use Rattle.refusal.specs.declared.Refusal.{Refusal}
use Rattle.algorithms.specs.Automaton.{Automaton}
use Rattle.algorithms.specs.Overloops.{accepts?}
use Rattle.blocks.specs.Blocks.{content}
use Rattle.tree.specs.File.{nodes_of, read_tree}
use Rattle.nodes.specs.Nodes.{tree_of}
use Rattle.membership.specs.Judged.{signature_of, accepted_if, judged_by}
use Rattle.membership.specs.declared.Answer.{Answer}
use Rattle.tally.specs.Tally.{limit_check, counted_up}
use Rattle.tally.specs.declared.Tally.{Tally}
use Rattle.tally.specs.declared.Outcome.{Outcome}
use Rattle.batch.specs.Batch.{file_blocks, first_length, outcome_of, ends_batch, judged_turn, turn_of, taken, next_in, rest_of, going_on, batch_of}
use Rattle.batch.proofs.Lengths.{file-length}
use Rattle.batch.proofs.Laws.{some_block, turn-none, turn-whole, batch-next}
use Rattle.refusal.specs.Checks.{Check}

-- files of the length that their first block tells, none of which ends the batch
pub data Whole (A : Automaton) : List (List ℕ) → Type 0 where
  none : Whole A []
  one : {s : List ℕ} {ss : List (List ℕ)} → length s ≡ first_length s → ends_batch (judged_by A s) ≡ false → Whole A ss → Whole A (s ∷ ss)

abbrev pub end_to_end : List (List ℕ) → List ℕ
end_to_end [] = []
end_to_end (s ∷ ss) = s ++ end_to_end ss

-- the answers, each counted in turn
abbrev pub count_all : Automaton → Tally → List (List ℕ) → Tally
count_all A t [] = t
count_all A t (s ∷ ss) = count_all A (counted_up t (outcome_of (judged_by A s))).tally ss

module _ (A : Automaton) where
  ends-not : (b : Bool) → ends_batch (Ok (accepted_if b)) ≡ false
  ends-not true = refl
  ends-not false = refl

  -- a file that reads is one
  pub read_whole : (s : List ℕ) (k : ℕ) → read_tree (signature_of A) s ≡ Ok k → (length s ≡ first_length s) × (ends_batch (judged_by A s) ≡ false)
  unfolding judged_by
  read_whole s k e =
      (file-length (signature_of A) s k e, rw e (ends-not (accepts? A (tree_of A.branches (nodes_of k (content s))))))

  module _ (s rest : List ℕ) (w : length s ≡ first_length s) where
    same_length : first_length (s ++ rest) ≡ first_length s
    same_length = ap (λ (l : List ℕ). 512 * file_blocks l) (take-append-le 512 s rest (omega (arith, w, some_block (take 512 s))))

    first-is : take (first_length (s ++ rest)) (s ++ rest) ≡ s
    first-is = take_at s rest (first_length (s ++ rest)) (w ∙ sym same_length)

    rest-is : rest_of (s ++ rest) ≡ rest
    rest-is = drop_at s rest (first_length (s ++ rest)) (w ∙ sym same_length)

    pub turn-first : turn_of A (s ++ rest) ≡ judged_turn (judged_by A s)
    turn-first =
        let long : 512 ≤ length (s ++ rest) = omega (arith, length-append s rest, w, some_block (take 512 s)) in
        let room : first_length (s ++ rest) ≤ length (s ++ rest) = omega (arith, length-append s rest, w, same_length) in
        sym (turn-whole A (s ++ rest) (λ z. absurd (omega arith)) room) ∙ ap (λ (l : List ℕ). judged_turn (judged_by A l)) first-is

    -- a file, and then the rest
    pub batch-file : (t : Tally) → batch_of A t (s ++ rest) ≡ going_on (taken t (judged_turn (judged_by A s))) (batch_of A (counted_up t (outcome_of (judged_by A s))).tally rest)
    unfolding next_in
    batch-file t = batch-next A t (s ++ rest) ∙ rw (turn-first, rest-is) refl

  -- a full tally stays
  full-one : (t : Tally) (r : Refusal) (o : Outcome) → limit_check t ≡ Err r → (counted_up t o).tally ≡ t
  unfolding counted_up
  full-one t r o e = rw e refl

  full-stays : (t : Tally) (r : Refusal) (ss : List (List ℕ)) → limit_check t ≡ Err r → count_all A t ss ≡ t
  full-stays t r [] e = refl
  full-stays t r (s ∷ ss) e = ap (λ (u : Tally). count_all A u ss) (full-one t r (outcome_of (judged_by A s)) e) ∙ full-stays t r ss e

  more-passed : (t : Tally) (a : Result Answer Refusal) (later : Tally) → limit_check t ≡ Ok tt → ends_batch a ≡ false → going_on (taken t (judged_turn a)) later ≡ later
  unfolding counted_up
  more-passed t a later e f = rw (e, f) refl

  more-refused : (t : Tally) (r : Refusal) (a : Result Answer Refusal) (later : Tally) → limit_check t ≡ Err r → going_on (taken t (judged_turn a)) later ≡ t
  unfolding counted_up
  more-refused t r a later e = rw e refl

  by-check : (t : Tally) (s : List ℕ) (ss : List (List ℕ)) (later : Tally) (c : Check) → limit_check t ≡ c → ends_batch (judged_by A s) ≡ false
      → later ≡ count_all A t (s ∷ ss) → going_on (taken t (judged_turn (judged_by A s))) later ≡ count_all A t (s ∷ ss)
  by-check t s ss later (Ok tt) e f g = more-passed t (judged_by A s) later e f ∙ g
  by-check t s ss later (Err r) e f g = more-refused t r (judged_by A s) later e ∙ sym (full-stays t r (s ∷ ss) e)

  -- THE FOLD: whole files end to end come to their answers, each counted in turn
  pub batch-folds : (t : Tally) (ss : List (List ℕ)) → Whole A ss → batch_of A t (end_to_end ss) ≡ count_all A t ss
  unfolding next_in
  batch-folds t [] none = batch-next A t [] ∙ rw (← turn-none A [] refl) refl
  batch-folds t (s ∷ ss) (one w f more) =
      batch-file s (end_to_end ss) w t
      ∙ by-check t s ss (batch_of A (counted_up t (outcome_of (judged_by A s))).tally (end_to_end ss)) (limit_check t) refl f
      (batch-folds (counted_up t (outcome_of (judged_by A s))).tally ss more)
