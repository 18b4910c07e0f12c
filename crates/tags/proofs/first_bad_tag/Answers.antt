-- `tags::first_bad_tag` meets its contract.
-- Assumes nothing.
use borrow.Author.Rules.{rules}
use mathlib.Core.Path.{sym, ◌∙◌}
use native.Mathlib.Nat.{sub-zero}
use Rattle.blocks.proofs.Laws.{lowest-passed, lowest-hit, lowest-none}
use Rattle.tags.proofs.first_bad_tag.Goals as goal

pub loop-at-init : goal.loop-at-init
loop-at-init c = (search rules, rw sub-zero)

pub returns-then-is_bad_tag : goal.returns-then-is_bad_tag
returns-then-is_bad_tag c =
    let l = c.loop-at in
    sym (l.invariant.1 ∙ lowest-hit _ l.at _ (search rules) (sym c.is_bad_tag.ensures ∙ c.if-is_bad_tag.true))

pub loop-at-preserved : goal.loop-at-preserved
loop-at-preserved c =
    let l = c.loop-at in
    (search rules, l.invariant.1 ∙ lowest-passed _ l.at _ (search rules) (sym c.is_bad_tag.ensures ∙ c.if-is_bad_tag.false))

pub returns : goal.returns
returns c = sym (c.loop-at.invariant.1 ∙ lowest-none _ _ _ (search rules))
