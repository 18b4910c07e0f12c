-- `witness::plan::first_wrong` meets its contract.
-- Assumes nothing.
use borrow.Author.Rules.{rules}
use mathlib.Core.Path.{sym, ◌∙◌}
use native.Mathlib.Nat.{sub-zero}
use Rattle.blocks.proofs.Laws.{lowest-passed, lowest-hit, lowest-none}
use Rattle.witness.proofs.plan.first_wrong.Goals as goal

pub loop-i-init : goal.loop-i-init
loop-i-init c = (search rules, rw sub-zero)

pub returns-then-row_wrong : goal.returns-then-row_wrong
returns-then-row_wrong c =
    let l = c.loop-i in
    sym (l.invariant.1 ∙ lowest-hit _ l.i _ (search rules) (sym c.row_wrong.ensures ∙ c.if-row_wrong.true))

pub loop-i-preserved : goal.loop-i-preserved
loop-i-preserved c =
    let l = c.loop-i in
    (search rules, l.invariant.1 ∙ lowest-passed _ l.i _ (search rules) (sym c.row_wrong.ensures ∙ c.if-row_wrong.false))

pub returns : goal.returns
returns c = sym (c.loop-i.invariant.1 ∙ lowest-none _ _ _ (search rules))
