-- `tags::is_bad_tag` meets its contract.
-- Assumes nothing.
use mathlib.Core.Path.{ap, ◌∙◌}
use borrow.Author.Tests.{eq-eqb, ne_eqb}
use Rattle.tags.specs.Tags.{bad_tag, no_branch}
use Rattle.tags.proofs.is_bad_tag.Goals as goal

pub returns-then-text-at-eq60 : goal.returns-then-text-at-eq60
unfolding bad_tag
returns-then-text-at-eq60 c = rw (eq-eqb _ 60 c.if-text-at-eq60.true) (c.no_branch.ensures ∙ ap (no_branch _) c.tag_at.ensures)

pub returns-else-text-at-eq60 : goal.returns-else-text-at-eq60
unfolding bad_tag
returns-else-text-at-eq60 c = rw (ne_eqb _ 60 c.if-text-at-eq60.false)
