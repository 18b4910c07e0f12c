-- `automaton::rules::rules_check` meets its contract. The invariant: the checks that are left, from rule i on, give the answer.
-- Assumes nothing.
use borrow.Author.Rules.{rules}
use mathlib.Core.Path.{sym, ◌∙◌}
use native.Mathlib.Nat.{sub-zero}
use Rattle.refusal.proofs.Cases.{handed_on, each_next, each-stop, each-done}
use Rattle.automaton.proofs.rules.rules_check.Goals as goal

pub loop-i-init : goal.loop-i-init
loop-i-init c = rw sub-zero

pub returns-in_err-rule_check : goal.returns-in_err-rule_check
returns-in_err-rule_check c =
    let l = c.loop-i in
    handed_on _ _ c.from_residual.ensures.1
    ∙ sym (l.invariant ∙ each-stop _ l.i _ (search rules) (sym c.rule_check.ensures ∙ c.in_err-rule_check.was))

pub loop-i-preserved : goal.loop-i-preserved
loop-i-preserved c =
    let l = c.loop-i in
    l.invariant ∙ each_next _ l.i _ (search rules) (sym c.rule_check.ensures ∙ c.in_ok-rule_check.was)

pub returns : goal.returns
returns c = sym (c.loop-i.invariant ∙ each-done _ _ _ (search rules))
