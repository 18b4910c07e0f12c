-- `blocks::block_check` meets its contract. The invariant: the four sums together are b + 1 and the first 4 k words, modulo 2^32.
-- Assumes nothing.
use Rattle.std.proofs.Common.{◌≡◌, refl, ◌∙◌, arith, rules}
use Rattle.blocks.specs.Blocks.{word_sum, block_check}
use Rattle.blocks.proofs.Laws.{step-more}
use Rattle.blocks.proofs.block_check.Goals as goal

pub loop-k-init : goal.loop-k-init
unfolding word_sum
loop-k-init c = search rules

pub loop-k-preserved : goal.loop-k-preserved
loop-k-preserved c =
    let l = c.loop-k in
    (search rules, step-more _ _ l.k 4 _ _ _ _ (omega arith) l.invariant.1 c.add_words-sums.ensures)

pub returns : goal.returns
unfolding block_check
returns c =
    let l = c.loop-k in
    let end : l.k ≡ 31 = search rules in
    c.whole.ensures ∙ step-more _ _ 31 3 127 _ _ _ refl (rw end at l.invariant.1) c.add_words-last.ensures
