-- `batch::part::judge_one` meets its contract.
-- Assumes nothing.
use Prim.Native.Nat.{ℕ}
use mathlib.Core.Path.{ap, ◌∙◌}
use mathlib.Core.Bool.{not}
use mathlib.Core.List.{List, [], ◌∷◌}
use lib.ListN.{length, get_or, length-set}
use lib.Seq.{sets, length-sets}
use Rattle.batch.specs.Batch.{ends_batch}
use Rattle.batch.specs.Answers.{answer_numbers}
use Rattle.batch.proofs.Parts.{numbers-each}
use Rattle.batch.proofs.Sums.{stored-if}
use Rattle.batch.proofs.part.judge_one.Goals as goal

pub returns : goal.returns
returns c =
    let args = c.args in
    let n = c.numbers_of-numbers in
    let put = c.put_numbers.ensures in
    let sum = c.put_growth.ensures in (
      ap length put ∙ length-sets args.answers.now args.at (get_or n.result 0 0 ∷ get_or n.result 1 0 ∷ get_or n.result 2 0 ∷ []),
      ap length sum ∙ length-set args.growths.now args.place _,
      λ A k h.
          let told = c.judge_with-judged.ensures A k h in (
            told.0,
            put ∙ ap (λ (x : List ℕ). sets args.answers.now args.at x)
                (rw (← n.ensures) at (numbers-each c.judge_with-judged.result.answer) ∙ n.ensures ∙ ap answer_numbers told.1),
            ap not (c.ends_batch-last.ensures ∙ ap ends_batch told.1),
            sum ∙ stored-if args.growths.now args.place _ _ told.2,
          ),
    )
