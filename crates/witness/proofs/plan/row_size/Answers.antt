-- `witness::plan::row_size` meets its contract.
-- Assumes nothing.
-- The parts of a branch's row are earlier rows, and its size is told by theirs.
use native.Mathlib.Omega.{arith}
use Rattle.witness.proofs.Passed.{node-tree}
use Rattle.witness.proofs.Writing.{leaf-size, node-size}
use Rattle.witness.proofs.plan.row_size.Goals as goal

pub returns-then-left : goal.returns-then-left
returns-then-left c =
    omega (arith, leaf-size c.args.plan.now c.requires.0 c.args.row.0 c.if-left.true)

pub overflow_cast-all : goal.overflow_cast-all
overflow_cast-all c =
    let parts = node-tree c.args.plan.now c.requires.0 c.args.row.0 c.requires.1 c.if-left.false in
    omega (arith, parts.left, c.requires.1, c.requires.0.few)

pub offset_bounds-sizes-left : goal.offset_bounds-sizes-left
offset_bounds-sizes-left c =
    let parts = node-tree c.args.plan.now c.requires.0 c.args.row.0 c.requires.1 c.if-left.false in
    omega (arith, parts.left, c.requires.1, c.requires.0.few)

pub bounds-sizes-left : goal.bounds-sizes-left
bounds-sizes-left c =
    let parts = node-tree c.args.plan.now c.requires.0 c.args.row.0 c.requires.1 c.if-left.false in
    omega (arith, parts.left, c.requires.1, c.requires.0.few)

pub overflow_add-all : goal.overflow_add-all
overflow_add-all c =
    let parts = node-tree c.args.plan.now c.requires.0 c.args.row.0 c.requires.1 c.if-left.false in
    omega (arith, c.requires.2 _ parts.left)

pub overflow_cast-all-2 : goal.overflow_cast-all-2
overflow_cast-all-2 c =
    let parts = node-tree c.args.plan.now c.requires.0 c.args.row.0 c.requires.1 c.if-left.false in
    omega (arith, parts.right, c.requires.1, c.requires.0.few)

pub offset_bounds-sizes-right : goal.offset_bounds-sizes-right
offset_bounds-sizes-right c =
    let parts = node-tree c.args.plan.now c.requires.0 c.args.row.0 c.requires.1 c.if-left.false in
    omega (arith, parts.right, c.requires.1, c.requires.0.few)

pub bounds-sizes-right : goal.bounds-sizes-right
bounds-sizes-right c =
    let parts = node-tree c.args.plan.now c.requires.0 c.args.row.0 c.requires.1 c.if-left.false in
    omega (arith, parts.right, c.requires.1, c.requires.0.few)

pub overflow_add-all-2 : goal.overflow_add-all-2
overflow_add-all-2 c =
    let parts = node-tree c.args.plan.now c.requires.0 c.args.row.0 c.requires.1 c.if-left.false in
    omega (arith, c.requires.2 _ parts.left, c.requires.2 _ parts.right)

pub returns-then-all-gt4097 : goal.returns-then-all-gt4097
returns-then-all-gt4097 c =
    let parts = node-tree c.args.plan.now c.requires.0 c.args.row.0 c.requires.1 c.if-left.false in
    let whole = node-size c.args.plan.now c.requires.0 c.args.row.0 c.requires.1 c.if-left.false in
    omega (arith, c.requires.2 _ parts.left, c.requires.2 _ parts.right, whole, c.if-all-gt4097.true)

pub returns : goal.returns
returns c =
    let parts = node-tree c.args.plan.now c.requires.0 c.args.row.0 c.requires.1 c.if-left.false in
    let whole = node-size c.args.plan.now c.requires.0 c.args.row.0 c.requires.1 c.if-left.false in
    omega (arith, c.requires.2 _ parts.left, c.requires.2 _ parts.right, whole, c.if-all-gt4097.false)
