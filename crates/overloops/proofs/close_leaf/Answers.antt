-- `overloops::close_leaf` meets its contract: a leaf is a node whose parts have no overloops.
-- Assumes nothing.
use mathlib.Core.Path.{sym, ◌∙◌}
use Rattle.algorithms.proofs.OverloopLaws.{leaf-as-node}
use Rattle.overloops.proofs.Laws.{leaf-grown}
use Rattle.overloops.proofs.close_leaf.Goals as goal

pub returns : goal.returns
returns c = (
  λ A k.
      let args = c.args in
      let left = c.empty.ensures in
      let right = c.empty-2.ensures in
      let closed = c.close_node.ensures.0 A k in
      (rw (left, right) at closed.0 ∙ sym (leaf-as-node A k.proper args.place args.symbol.0), leaf-grown A k.proper _ _ left right closed.1),
  c.close_node.ensures.1,
)
