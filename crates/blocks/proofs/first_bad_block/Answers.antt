-- `blocks::first_bad_block` meets its contract. The invariant: what is left of the search, from b on, gives the answer.
-- Assumes nothing.
use Rattle.std.proofs.Common.{sym, ◌∙◌, rules}
use native.Mathlib.Nat.{sub-zero}
use Rattle.blocks.proofs.Laws.{lowest-passed, lowest-hit, lowest-none, check-wrong, check-right}
use Rattle.blocks.proofs.first_bad_block.Goals as goal

pub loop-b-init : goal.loop-b-init
loop-b-init c = (search rules, rw sub-zero)

pub returns-then-word_at-block_check : goal.returns-then-word_at-block_check
returns-then-word_at-block_check c =
    let l = c.loop-b in
    sym
    (l.invariant.1
    ∙ lowest-hit _ l.b _ (search rules)
    (check-wrong _ l.b c.word_at.ensures c.block_check.ensures c.if-word_at-block_check.true))

pub loop-b-preserved : goal.loop-b-preserved
loop-b-preserved c =
    let l = c.loop-b in (
      search rules,
      l.invariant.1
          ∙ lowest-passed _ l.b _ (search rules)
          (check-right _ l.b c.word_at.ensures c.block_check.ensures c.if-word_at-block_check.false),
    )

pub returns : goal.returns
returns c = sym (c.loop-b.invariant.1 ∙ lowest-none _ _ _ (search rules))
