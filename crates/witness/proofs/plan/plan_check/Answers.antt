-- `witness::plan::plan_check` meets its contract.
-- Assumes nothing.
use native.Mathlib.Omega.{arith}
use mathlib.Core.Path.{sym, ap, ◌∙◌}
use Rattle.refusal.specs.Checks.{refuse_at}
use Rattle.refusal.specs.declared.Fault.{Fault}
use Rattle.witness.specs.Plan.{plan_check}
use Rattle.witness.proofs.Passed.{length-right}
use Rattle.witness.proofs.plan.plan_check.Goals as goal

pub returns-then-length_wrong : goal.returns-then-length_wrong
unfolding plan_check
returns-then-length_wrong c = rw (sym c.length_wrong.ensures ∙ c.if-length_wrong.true) c.refused.ensures

pub first_wrong-requires : goal.first_wrong-requires
first_wrong-requires c =
    let right = length-right _ (sym c.length_wrong.ensures ∙ c.if-length_wrong.false) in
    omega (arith, right.few, right.whole)

pub returns : goal.returns
unfolding plan_check
returns c =
    rw (sym c.length_wrong.ensures ∙ c.if-length_wrong.false)
    (c.refuse_at.ensures ∙ ap (refuse_at Fault.Plan 2) c.first_wrong.ensures)
