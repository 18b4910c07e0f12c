-- `nodes::path_after` meets its contract: `up` steps up and `one` down lead where the definition does.
-- Assumes nothing.
-- a part is to come: `c` stands after the second test
-- a shift to the left loses nothing
use borrow.Author.Tests.{lt-ltb}
use Prim.Native.Nat.{ℕ, ◌+◌, ◌%◌, ◌^◌, ◌<◌}
use mathlib.Core.Path.{◌≡◌}
use native.Mathlib.Omega.{arith}
use lib.Count.{count_trailing_zeros}
use lib.Bits.{bit_or}
use Rattle.nodes.specs.Scan.{path_after}
use Rattle.nodes.proofs.Paths.{Next, next-is, next-closed}
use Rattle.nodes.proofs.path_after.Goals as goal

whole : (n one : ℕ) → n + one < 2 ^ 64 → n % 2 ^ 64 ≡ n
whole n one h = omega arith

pub returns-then-path-gt64 : goal.returns-then-path-gt64
unfolding path_after
returns-then-path-gt64 c = rw (lt-ltb _ _ c.if-path-gt64.true)

pub returns-then-near-eq0 : goal.returns-then-near-eq0
returns-then-near-eq0 c = let a = c.args in next-closed a.path a.branch _ c.opened-down.ensures c.if-path-gt64.false c.if-near-eq0.true

pub overflow_sub-depth : goal.overflow_sub-depth
overflow_sub-depth c =
    let next : Next c.args.path c.args.branch c.opened-down.result
    (count_trailing_zeros 64 (bit_or c.args.path.waiting c.opened-down.result)) = let a = c in
    next-is a.args.path a.args.branch _ c.opened-down.ensures a.requires c.if-path-gt64.false c.if-near-eq0.false in
    (next).within

pub overflow_add-depth : goal.overflow_add-depth
overflow_add-depth c =
    let next : Next c.args.path c.args.branch c.opened-down.result
    (count_trailing_zeros 64 (bit_or c.args.path.waiting c.opened-down.result)) = let a = c in
    next-is a.args.path a.args.branch _ c.opened-down.ensures a.requires c.if-path-gt64.false c.if-near-eq0.false in
    let n = next in let low = c.if-path-gt64.false in omega (arith, n.most, low)

pub returns-then-depth-eq65 : goal.returns-then-depth-eq65
returns-then-depth-eq65 c =
    let next : Next c.args.path c.args.branch c.opened-down.result
    (count_trailing_zeros 64 (bit_or c.args.path.waiting c.opened-down.result)) = let a = c in
    next-is a.args.path a.args.branch _ c.opened-down.ensures a.requires c.if-path-gt64.false c.if-near-eq0.false in
    (next).deep c.if-depth-eq65.true

pub overflow_cast-result : goal.overflow_cast-result
overflow_cast-result c =
    let next : Next c.args.path c.args.branch c.opened-down.result
    (count_trailing_zeros 64 (bit_or c.args.path.waiting c.opened-down.result)) = let a = c in
    next-is a.args.path a.args.branch _ c.opened-down.ensures a.requires c.if-path-gt64.false c.if-near-eq0.false in
    let n = next in omega (arith, n.few)

pub overflow_shr-result : goal.overflow_shr-result
overflow_shr-result c =
    let next : Next c.args.path c.args.branch c.opened-down.result
    (count_trailing_zeros 64 (bit_or c.args.path.waiting c.opened-down.result)) = let a = c in
    next-is a.args.path a.args.branch _ c.opened-down.ensures a.requires c.if-path-gt64.false c.if-near-eq0.false in
    (next).few

pub overflow_shl-result : goal.overflow_shl-result
overflow_shl-result c =
    let next : Next c.args.path c.args.branch c.opened-down.result
    (count_trailing_zeros 64 (bit_or c.args.path.waiting c.opened-down.result)) = let a = c in
    next-is a.args.path a.args.branch _ c.opened-down.ensures a.requires c.if-path-gt64.false c.if-near-eq0.false in
    let n = next in omega (arith, n.most)

pub overflow_add-result : goal.overflow_add-result
overflow_add-result c =
    let next : Next c.args.path c.args.branch c.opened-down.result
    (count_trailing_zeros 64 (bit_or c.args.path.waiting c.opened-down.result)) = let a = c in
    next-is a.args.path a.args.branch _ c.opened-down.ensures a.requires c.if-path-gt64.false c.if-near-eq0.false in
    let f = (next).fits c.if-depth-eq65.false in rw (whole _ _ f) (omega (arith, f))

pub overflow_sub-result : goal.overflow_sub-result
overflow_sub-result c =
    let next : Next c.args.path c.args.branch c.opened-down.result
    (count_trailing_zeros 64 (bit_or c.args.path.waiting c.opened-down.result)) = let a = c in
    next-is a.args.path a.args.branch _ c.opened-down.ensures a.requires c.if-path-gt64.false c.if-near-eq0.false in
    (next).most

pub overflow_sub-result-2 : goal.overflow_sub-result-2
overflow_sub-result-2 c =
    let next : Next c.args.path c.args.branch c.opened-down.result
    (count_trailing_zeros 64 (bit_or c.args.path.waiting c.opened-down.result)) = let a = c in
    next-is a.args.path a.args.branch _ c.opened-down.ensures a.requires c.if-path-gt64.false c.if-near-eq0.false in
    let n = next in rw (whole _ _ (n.fits c.if-depth-eq65.false)) n.some

pub returns : goal.returns
returns c =
    let next : Next c.args.path c.args.branch c.opened-down.result
    (count_trailing_zeros 64 (bit_or c.args.path.waiting c.opened-down.result)) = let a = c in
    next-is a.args.path a.args.branch _ c.opened-down.ensures a.requires c.if-path-gt64.false c.if-near-eq0.false in
    let n = next in rw (whole _ _ (n.fits c.if-depth-eq65.false)) (n.goes c.if-depth-eq65.false)
