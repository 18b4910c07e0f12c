-- `reachability::sweep` meets its contract. The invariant: the nodes passed have no fresh state.
-- Assumes nothing.
use native.Mathlib.Omega.{arith}
use Rattle.reachability.proofs.Ending.{none_more}
use Rattle.reachability.proofs.sweep.Goals as goal

pub loop-node-init : goal.loop-node-init
loop-node-init c = λ i l. absurd (omega arith)

pub returns-then-fresh-node-ne0 : goal.returns-then-fresh-node-ne0
returns-then-fresh-node-ne0 c = (c.loop-node-test.true, omega (arith, c.if-fresh-node-ne0.true))

pub loop-node-preserved : goal.loop-node-preserved
loop-node-preserved c = none_more c.args.fresh.now c.loop-node.node c.loop-node.invariant (omega (arith, c.if-fresh-node-ne0.false))

pub returns : goal.returns
returns c = λ i l. c.loop-node.invariant i (omega arith)
