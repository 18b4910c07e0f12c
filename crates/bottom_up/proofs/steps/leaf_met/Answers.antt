-- `bottom_up::steps::leaf_met` meets its contract.
-- Assumes nothing.
use Rattle.bottom_up.proofs.Loading.{leaves-stay, leaf-met-more, as_before}
use Rattle.bottom_up.proofs.steps.leaf_met.Goals as goal

pub returns-then-met-ne0 : goal.returns-then-met-ne0
returns-then-met-ne0 c = λ A k h l. (as_before A _ _ _ _ h, l, l _)

pub returns : goal.returns
returns c =
    λ A k h l.
    let read = c.leaf_word-word.ensures A k h in
    let leaves = c.args.leaves.now in
    (read.0, leaf-met-more A _ _ leaves _ _ (leaves-stay A _ _ _ _ _ _ leaves read.0 h.some l) read.1, read.1)
