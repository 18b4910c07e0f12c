-- `batch::part::put_numbers` meets its contract: three stores.
-- Assumes nothing.
use Rattle.batch.proofs.Parts.{put_three}
use lib.ListN.{length-set}
use native.Mathlib.Omega.{arith}
use Rattle.batch.proofs.part.put_numbers.Goals as goal

pub bounds-answers-at-2 : goal.bounds-answers-at-2
bounds-answers-at-2 c = simp length-set (omega arith)

pub bounds-answers-at-3 : goal.bounds-answers-at-3
bounds-answers-at-3 c = simp length-set (omega arith)

pub returns : goal.returns
returns c = put_three c.args.answers.now c.args.at _ _ _
