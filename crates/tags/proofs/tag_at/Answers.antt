-- `tags::tag_at` meets its contract.
-- Assumes nothing.
use mathlib.Core.Path.{sym, ◌∙◌}
use borrow.Author.Tests.{eq-eqb, ne_eqb}
use Rattle.tags.specs.Tags.{tag_before}
use Rattle.tags.proofs.tag_at.Goals as goal

pub returns-then-first-eq47 : goal.returns-then-first-eq47
unfolding tag_before
returns-then-first-eq47 c = let e = sym c.byte_at-first.ensures ∙ c.if-first-eq47.true in rw e

pub returns-then-second-eq62 : goal.returns-then-second-eq62
unfolding tag_before
returns-then-second-eq62 c =
    let d = c in
    let first = d.byte_at-first.ensures in
    let second = d.byte_at-second.ensures in
    rw (← first, ← second, ne_eqb _ 47 c.if-first-eq47.false, eq-eqb _ 62 c.if-second-eq62.true, ← c.digit.ensures.0)

pub returns : goal.returns
unfolding tag_before
returns c =
    let e = c in
    let d = e in
    let first = d.byte_at-first.ensures in
    let second = d.byte_at-second.ensures in
    rw (← first, ← second, ne_eqb _ 47 e.if-first-eq47.false, ne_eqb _ 62 e.if-second-eq62.false, ← c.digit-2.ensures.0, ← c.digit-3.ensures.0)
