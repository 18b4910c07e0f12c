-- `representatives::is_known` meets its contract. The invariant: none of the rows before is the one.
-- Assumes nothing.
use borrow.Author.Rules.{rules}
use mathlib.Core.Path.{◌≡◌, sym, ◌∙◌}
use Rattle.algorithms.specs.Saturate.{parts}
use Rattle.representatives.proofs.Table.{known_more}
use Rattle.representatives.proofs.is_known.Goals as goal

pub loop-i-init : goal.loop-i-init
loop-i-init c = (search rules, λ i l. absurd (search rules))

pub returns-then-same_at : goal.returns-then-same_at
returns-then-same_at c = (c.loop-i.i, search rules, sym c.same_at.ensures ∙ c.if-same_at.true)

pub loop-i-preserved : goal.loop-i-preserved
loop-i-preserved c =
    let a = c.args in
    (search rules, known_more a.rows.now _ (parts a.left.now a.right.now) c.loop-i.invariant.1 c.same_at.ensures c.if-same_at.false)

pub returns : goal.returns
returns c =
    let end : c.loop-i.i ≡ c.args.n = search rules in
    rw end at c.loop-i.invariant.1
