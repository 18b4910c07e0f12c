-- `witness::plan::write_row` meets its contract: the row's symbol, and then the nodes of its parts' trees.
-- Assumes nothing.
use Rattle.std.proofs.Common.{arith, length-set}
use Rattle.witness.specs.Plan.{row_tree}
use Rattle.witness.proofs.Passed.{leaf-tree, node-tree}
use Rattle.witness.proofs.Writing.{leaf-size, node-size, size-some, leaf-written, node-written}
use Rattle.witness.proofs.plan.+write_row.Goals as goal

pub bounds-nodes-at : goal.bounds-nodes-at
bounds-nodes-at t c = omega (arith, size-some (row_tree c.args.plan.now c.args.row.0), c.requires.2)

pub returns-then-left : goal.returns-then-left
returns-then-left t c =
    let p = c.args.plan.now in
    let i = c.args.row.0 in
    (omega (arith, leaf-size p c.requires.0 i c.if-left.true), leaf-written _ _ _ _ (leaf-tree p c.requires.0 i c.if-left.true))

pub write_row-middle-requires : goal.write_row-middle-requires
write_row-middle-requires t c =
    let p = c.args.plan.now in
    let i = c.args.row.0 in
    let b = node-tree p c.requires.0 i c.requires.1 c.if-left.false in
    let w = node-size p c.requires.0 i c.requires.1 c.if-left.false in
    (omega (arith, b.left, b.right), (c.requires.0, omega (arith, b.left, b.right, c.requires.1), simp length-set (omega (arith, w, c.requires.2))))

pub write_row-requires : goal.write_row-requires
write_row-requires t c =
    let p = c.args.plan.now in
    let i = c.args.row.0 in
    let b = node-tree p c.requires.0 i c.requires.1 c.if-left.false in
    let w = node-size p c.requires.0 i c.requires.1 c.if-left.false in
    let l = c.write_row-middle.ensures in
    let n = simp length-set at c.write_row-middle.auto.nodes in
    (omega (arith, b.left, b.right), (c.requires.0, omega (arith, b.left, b.right, c.requires.1), omega (arith, w, l.0, n, c.requires.2)))

pub returns : goal.returns
returns t c =
    let p = c.args.plan.now in
    let i = c.args.row.0 in
    let b = node-tree p c.requires.0 i c.requires.1 c.if-left.false in
    let w = node-size p c.requires.0 i c.requires.1 c.if-left.false in
    let l = c.write_row-middle.ensures in
    let r = c.write_row.ensures in
    (omega (arith, w, l.0, r.0), node-written _ _ _ _ c.args.at _ c.args.nodes.now _ _ b.tree l.0 l.1 r.1)
