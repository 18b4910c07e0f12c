-- `canonical::write_records` meets its contract.
-- Assumes nothing.
use Rattle.std.proofs.Common.{Ok}
use borrow.Author.Rules.{rules}
use Prim.Native.Nat.{◌/◌}
use mathlib.Core.Path.{◌≡◌, sym, ◌∙◌}
use lib.ListN.{length}
use Rattle.refusal.proofs.Cases.{handed_on}
use Rattle.canonical.specs.Canonical.{form_check_of}
use Rattle.canonical.proofs.OneForm.{of-passed}
use Rattle.canonical.proofs.Writing.{records-fit, stopped, written}
use Rattle.canonical.proofs.write_records.Goals as goal

pub returns-in_err-form_check : goal.returns-in_err-form_check
returns-in_err-form_check c rules is =
    let a = c.args in
    rw (handed_on _ _ c.from_residual.ensures.1)
    (stopped a.header a.records.now rules a.out.now is _ (sym c.form_check.ensures ∙ c.in_err-form_check.was))

pub with_rules-requires : goal.with_rules-requires
with_rules-requires c =
    -- 17 and 13 passed
    let passed : form_check_of (length c.args.records.now / 5) (length c.args.out.now) ≡ Ok tt = sym c.form_check.ensures ∙ c.in_ok-form_check.was in
    (of-passed _ _ passed).0

pub write_automaton-requires : goal.write_automaton-requires
write_automaton-requires c =
    -- 17 and 13 passed
    let passed : form_check_of (length c.args.records.now / 5) (length c.args.out.now) ≡ Ok tt = sym c.form_check.ensures ∙ c.in_ok-form_check.was in
    records-fit c.args.records.now c.args.out.now c.requires passed

pub returns : goal.returns
returns c rules is =
    -- 17 and 13 passed
    let passed : form_check_of (length c.args.records.now / 5) (length c.args.out.now) ≡ Ok tt = sym c.form_check.ensures ∙ c.in_ok-form_check.was in
    let a = c.args in
    let e = c.write_automaton.ensures in
    written a.header a.records.now rules a.out.now is _ _ _ passed c.with_rules.ensures e.0 e.1
