-- `representatives::put_origin` meets its contract.
-- Assumes nothing.
use borrow.Author.Rules.{rules}
use lib.ListN.{length-set}
use Rattle.representatives.proofs.Table.{put_three}
use Rattle.representatives.proofs.put_origin.Goals as goal

pub bounds-rows-at-2 : goal.bounds-rows-at-2
bounds-rows-at-2 c = simp length-set (search rules)

pub bounds-rows-at-3 : goal.bounds-rows-at-3
bounds-rows-at-3 c = simp (length-set, length-set) (search rules)

pub returns : goal.returns
returns c = put_three _ _ _ _ _ (search rules)
