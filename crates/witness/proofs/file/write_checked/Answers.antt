-- `witness::file::write_checked` meets its contract.
-- Assumes nothing.
use Rattle.std.proofs.Common.{Ok}
use Rattle.block_writer.proofs.Answers.{told}
use Rattle.witness.proofs.Space.{space-passed}
use Rattle.witness.specs.Written.{plan_file, space_check, witness_for}
use Rattle.witness.proofs.Passed.{plan-passed, sound}
use Rattle.witness.specs.Plan.{plan_check}
use Rattle.witness.specs.Sound.{Sound}
use lib.ListN.{length}
use mathlib.Core.Path.{◌≡◌, sym, ◌∙◌}
use Rattle.refusal.proofs.Cases.{handed_on}
use Rattle.witness.proofs.file.write_checked.Goals as goal

pub returns-in_err-plan_check : goal.returns-in_err-plan_check
unfolding witness_for
returns-in_err-plan_check c = let e = handed_on _ _ c.from_residual.ensures.1 in rw (e, sym c.plan_check.ensures ∙ c.in_err-plan_check.was)

pub space_check-requires : goal.space_check-requires
space_check-requires c =
    let plan-is : plan_check c.args.signature c.args.plan.now ≡ Ok tt = sym c.plan_check.ensures ∙ c.in_ok-plan_check.was in
    let sound-is : Sound c.args.plan.now = sound _ _ (plan-passed _ _ (plan-is)) in
    sound-is

pub returns-in_err-space_check : goal.returns-in_err-space_check
unfolding witness_for
returns-in_err-space_check c =
    let plan-is : plan_check c.args.signature c.args.plan.now ≡ Ok tt = sym c.plan_check.ensures ∙ c.in_ok-plan_check.was in
    let e = handed_on _ _ c.from_residual-in_err-space_check.ensures.1 in rw (e, plan-is, sym c.space_check.ensures ∙ c.in_err-space_check.was)

pub put_tree-requires : goal.put_tree-requires
put_tree-requires c =
    let plan-is : plan_check c.args.signature c.args.plan.now ≡ Ok tt = sym c.plan_check.ensures ∙ c.in_ok-plan_check.was in
    let space-is : space_check c.args.plan.now (length c.args.out.now) ≡ Ok tt = sym c.space_check.ensures ∙ c.in_ok-space_check.was in
    let sound-is : Sound c.args.plan.now = sound _ _ (plan-passed _ _ (plan-is)) in
    let r = space-passed _ _ (space-is) in
    (sound-is, r.0, r.1)

pub returns : goal.returns
unfolding witness_for
returns c =
    let plan-is : plan_check c.args.signature c.args.plan.now ≡ Ok tt = sym c.plan_check.ensures ∙ c.in_ok-plan_check.was in
    let space-is : space_check c.args.plan.now (length c.args.out.now) ≡ Ok tt = sym c.space_check.ensures ∙ c.in_ok-space_check.was in
    let e = c.put_tree.ensures in
    let a = c.args in
    rw (plan-is, space-is) (told _ _ (plan_file a.plan.now) a.out.now e.0 e.1)
