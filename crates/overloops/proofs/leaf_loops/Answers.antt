-- `overloops::leaf_loops` meets its contract: a leaf is a node whose parts have no overloops.
-- Assumes nothing.
use mathlib.Core.Path.{sym, ◌∙◌}
use Rattle.algorithms.proofs.OverloopLaws.{leaf-as-node}
use Rattle.overloops.proofs.leaf_loops.Goals as goal

pub returns : goal.returns
returns c = λ A k. rw (c.empty.ensures, c.empty-2.ensures) at (c.node_loops.ensures A k) ∙ sym (leaf-as-node A k.proper c.args.place c.args.symbol.0)
