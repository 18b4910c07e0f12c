-- `reachability::climb` meets its contract: the root has no parent.
-- Assumes nothing.
use borrow.Author.Tests.{eq-eqb, ne_eqb}
use native.Mathlib.Omega.{arith}
use mathlib.Core.Path.{refl}
use mathlib.Core.List.{[]}
use lib.ListN.{get_or}
use Rattle.model.specs.declared.Move.TheVariants.{Up}
use Rattle.reachability.proofs.Growing.{sent-nowhere, sent-to}
use Rattle.reachability.proofs.climb.Goals as goal

pub returns-then-node-eq0 : goal.returns-then-node-eq0
returns-then-node-eq0 c =
    let a = c.args in
    (omega arith, sent-nowhere a.nodes a.parents.now [] a.node Up a.next.up (λ j q. rw (eq-eqb a.node 0 c.if-node-eq0.true) refl))

pub overflow_cast-parent : goal.overflow_cast-parent
overflow_cast-parent c = omega (arith, c.shared_slice_known-2-1.given c.args.node)

pub returns : goal.returns
returns c =
    let a = c.args in
    let r = c.add.ensures in
    let not_root = c.if-node-eq0.false in (
      r.0,
      sent-to a.nodes a.parents.now [] a.node Up a.next.up (get_or a.parents.now a.node 0) (λ j q. rw (ne_eqb a.node 0 not_root) refl) r.1,
    )
