-- `emptiness::plan::write_plan` meets its contract.
-- Assumes nothing.
use borrow.Author.Rules.{rules}
use mathlib.Core.Path.{◌≡◌, refl}
use Rattle.model.specs.Lists.{count_from}
use Rattle.representatives.specs.Stored.{origin_of, origins_in}
use Rattle.emptiness.proofs.Planning.{plan-more, origins-length, plan-step}
use Rattle.emptiness.proofs.plan.write_plan.Goals as goal

pub loop-i-init : goal.loop-i-init
unfolding count_from
loop-i-init c = (refl, search rules, refl)

pub loop-i-preserved : goal.loop-i-preserved
unfolding count_from
loop-i-preserved c =
    let a = c.args in
    (search rules, search rules, plan-step a.rows.now a.plan.now _ _ c.loop-i.i c.origin_at.result c.origin_at.ensures c.loop-i.invariant.2 c.put_row.ensures)

pub returns : goal.returns
unfolding count_from
returns c =
    let end : c.loop-i.i ≡ c.args.n = search rules in
    let a = c.args in
    plan-more (origins_in a.rows.now a.n) (origin_of a.last) a.n a.plan.now _ (origins-length a.rows.now _) (rw end at c.loop-i.invariant.2) _ c.put_row-2.ensures
