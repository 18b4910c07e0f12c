-- `transitions::add_rule_at` meets its contract: a known rule's numbers are below the counts, so they are within the table.
-- Assumes nothing.
use borrow.Author.Rules.{rules}
use mathlib.Core.Path.{sym, ◌∙◌}
use native.Mathlib.Omega.{arith}
use Rattle.automaton.proofs.Passed.{rule-in}
use Rattle.transitions.proofs.Laws.{unknown-adds}
use Rattle.transitions.proofs.add_rule_at.Goals as goal

pub returns-in_default : goal.returns-in_default
returns-in_default c = rw (sym c.rule_at.ensures ∙ c.in_default.is) (unknown-adds _)

pub add_rule-requires : goal.add_rule-requires
add_rule-requires c =
    let h = rule-in _ _ _ _ (sym c.rule_at.ensures ∙ c.in-Some.is) in
    (search rules, record { symbol = omega (arith, h.symbol); state = omega (arith, h.state); next = omega (arith, h.next) })

pub returns : goal.returns
returns c = rw (sym c.rule_at.ensures ∙ c.in-Some.is) c.add_rule.ensures
