-- `watch::watch_nodes` meets its contract: a check's refusal is told, and any other run is followed.
-- Assumes nothing.
-- no check applies
use Rattle.std.proofs.Common.{Ok}
use mathlib.Core.Path.{◌≡◌, sym, ap, ◌∙◌}
use lib.Count.{ones}
use lib.ListN.{length}
use Rattle.refusal.proofs.Cases.{handed_on}
use Rattle.determinism.specs.Determined.{determined}
use Rattle.watch.specs.Checks.{watch_check}
use Rattle.watch.specs.Following.{Held}
use Rattle.watch.proofs.Checking.{checks-passed}
use Rattle.watch.proofs.Telling.{tree-refused, tree-walked}
use Rattle.watch.proofs.watch_nodes.Goals as goal

pub watch_check-requires : goal.watch_check-requires
watch_check-requires c = c.requires.limits

pub returns-in_err-watch_check : goal.returns-in_err-watch_check
returns-in_err-watch_check c =
    λ held.
    rw (handed_on _ _ c.from_residual.ensures.1)
    (tree-refused (determined held.automaton) held.automaton held.tree _ _ _
    (sym (c.watch_check.ensures _ held.headed) ∙ c.in_err-watch_check.was))

pub walk_nodes-requires : goal.walk_nodes-requires
walk_nodes-requires c =
    let passed : (held : Held c.args.header c.args.table.now c.args.nodes.now)
    → watch_check (determined held.automaton) held.automaton c.args.budget (length c.args.log.now) ≡ Ok tt = λ held. sym (c.watch_check.ensures _ held.headed) ∙ c.in_ok-watch_check.was in
    let held = c.requires in
    let free = checks-passed _ _ _ _ (passed held) in
    (held, ap ones (sym held.headed.initial) ∙ free.one-start, free.low, free.enough)

pub returns : goal.returns
returns c =
    let passed : (held : Held c.args.header c.args.table.now c.args.nodes.now)
    → watch_check (determined held.automaton) held.automaton c.args.budget (length c.args.log.now) ≡ Ok tt = λ held. sym (c.watch_check.ensures _ held.headed) ∙ c.in_ok-watch_check.was in
    λ held.
    tree-walked (determined held.automaton) held.automaton held.tree _ _ (passed held) _ held.headed.initial _ _
    (c.walk_nodes.ensures held)
