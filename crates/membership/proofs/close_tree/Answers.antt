-- `membership::close_tree` meets its contract: the parts of the root stand after it.
-- Assumes nothing.
use native.Mathlib.Omega.{arith}
use mathlib.Core.Path.{sym, ap₂, ◌∙◌}
use Rattle.algorithms.specs.Overloops.{node_loops, loops}
use Rattle.nodes.proofs.Standing.{leaf-here, node-here}
use Rattle.algorithms.proofs.Grown.{leaf-sum, node-sum}
use Rattle.membership.proofs.close_tree.Goals as goal

pub close_leaf-requires : goal.close_leaf-requires
close_leaf-requires c = let q = c.requires in (q.2, q.3 _)

pub returns-then-not-is_branch : goal.returns-then-not-is_branch
unfolding loops
returns-then-not-is_branch c =
    λ A n k e small u h.
    let closed = c.close_leaf.ensures.0 A k in
    rw (leaf-here (sym c.is_branch.ensures ∙ c.if-not-is_branch.true) h) (closed.0, leaf-sum A _ _ closed.1)

pub part_at-left-requires : goal.part_at-left-requires
part_at-left-requires c = let q = c.requires in (q.2, q.1, omega arith, q.3)

pub part_at-right-requires : goal.part_at-right-requires
part_at-right-requires c = let q = c.requires in (q.2, q.1, c.part_at-left.ensures.1, q.3)

pub close_node-root-requires : goal.close_node-root-requires
close_node-root-requires c = let q = c.requires in (q.2, q.3 _)

pub overflow_add-result : goal.overflow_add-result
overflow_add-result c =
    let left = c.part_at-left.ensures in
    let long = c.requires.1 in
    omega (arith, left.1, left.2, c.close_node-root.ensures.1)

pub overflow_add-result-2 : goal.overflow_add-result-2
overflow_add-result-2 c =
    let left = c.part_at-left.ensures in
    let right = c.part_at-right.ensures in
    let long = c.requires.1 in
    omega (arith, left.2, right.1, right.2, c.close_node-root.ensures.1)

pub returns : goal.returns
unfolding loops
returns c =
    λ A n k e small u h.
    let parts = node-here (sym c.is_branch.ensures ∙ c.if-not-is_branch.false) h in
    let left = c.part_at-left.ensures.3 A n k e small parts.l parts.left in
    let right = c.part_at-right.ensures.3 A n k e small parts.r (rw left.2 parts.right) in
    let closed = c.close_node-root.ensures.0 A k in
    rw parts.tree
    (closed.0 ∙ ap₂ (node_loops A _ _) left.0 right.0, node-sum A _ _ _ _ left.0 right.0 closed.1 left.1 right.1)
