-- `membership::part_at` meets its contract: the table is that of the tree that stands at the node.
-- Assumes nothing.
use Rattle.std.proofs.Common.{arith, refl, sym, ap₂, ◌∙◌}
use Rattle.algorithms.specs.Overloops.{node_overloops, overloops}
use Rattle.nodes.proofs.Standing.{within, leaf-here, node-here}
use Rattle.algorithms.proofs.Grown.{leaf-sum, node-sum}
use Rattle.membership.proofs.+part_at.Goals as goal

-- a leaf symbol: its overloops are in the table of leaves
pub returns-then-not-is_branch : goal.returns-then-not-is_branch
unfolding overloops
returns-then-not-is_branch t c =
    let part = c.leaf_at-leaf.ensures in (
      omega arith,
      omega arith,
      omega (arith, part.1),
      λ A n k e small u h.
          let alone = sym c.is_branch.ensures ∙ c.if-not-is_branch.true in
          let read = part.0 A n _ k.proper e (small _ (within h)) alone in
          rw (leaf-here alone h) (read.0, leaf-sum A _ _ read.1, refl),
    )

-- a branch symbol: the parts stand after it, one after the other
pub returns : goal.returns
unfolding overloops
returns t c =
    let pl = c.part_at-left.ensures in
    let pr = c.part_at-right.ensures in
    let part = c.part_in-part.ensures in (
      omega (arith, pl.0, pr.0),
      pr.1,
      omega (arith, pl.2, pr.2, part.1),
      λ A n k e small u h.
          let parts = node-here (sym c.is_branch.ensures ∙ c.if-not-is_branch.false) h in
          let left = pl.3 A n k e small parts.l parts.left in
          let right = pr.3 A n k e small parts.r (rw left.2 parts.right) in
          let formed = part.0 A k in
          rw parts.tree
          (formed.0 ∙ ap₂ (node_overloops A _ _) left.0 right.0, node-sum A _ _ _ _ left.0 right.0 formed.1 left.1 right.1, omega (arith, left.2, right.2)),
    )
