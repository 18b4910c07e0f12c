-- `logs::count_nodes` meets its contract: refusal 23 is told, and any other pair of logs is counted by the tree's tables.
-- Assumes nothing.
use mathlib.Core.Path.{sym, ◌∙◌}
use Rattle.refusal.proofs.Cases.{handed_on}
use Rattle.watch.proofs.Holding.{tree-stands}
use Rattle.logs.proofs.Telling.{countable, tree-refused, tree-counted}
use Rattle.logs.proofs.count_nodes.Goals as goal

pub returns-in_err-logs_check : goal.returns-in_err-logs_check
returns-in_err-logs_check c = λ held. rw (handed_on _ _ c.from_residual.ensures.1) (tree-refused held.automaton held.tree _ _ _ (sym c.logs_check.ensures ∙ c.in_err-logs_check.was))

pub run_prefix-one-requires : goal.run_prefix-one-requires
run_prefix-one-requires c = let held = c.requires in countable held _ _ _ _ (c.link.ensures _ (tree-stands held))

pub run_prefix-two-requires : goal.run_prefix-two-requires
run_prefix-two-requires c = let held = c.requires in countable held _ _ _ _ (c.link.ensures _ (tree-stands held))

pub returns : goal.returns
returns c =
    λ held.
    let tables = countable held _ _ _ _ (c.link.ensures _ (tree-stands held)) in
    tree-counted held.automaton held.tree _ _ (sym c.logs_check.ensures ∙ c.in_ok-logs_check.was) _ _
    (c.run_prefix-one.ensures tables) (c.run_prefix-two.ensures tables)
