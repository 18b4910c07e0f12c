-- `reachability::add` meets its contract: nothing is new, or the new states are stored as reached and as fresh.
-- Assumes nothing.
-- what is reached with the states added is a word
use Prim.Native.Nat.{◌^◌, ◌<◌}
use native.Mathlib.Omega.{arith}
use lib.ListN.{get_or}
use lib.Bits.{bit_or, or_lt}
use Rattle.reachability.proofs.Words.{or-over}
use Rattle.reachability.proofs.Growing.{added-past, added_none, added}
use Rattle.reachability.proofs.add.Goals as goal

pub returns-then-nodes-node : goal.returns-then-nodes-node
returns-then-nodes-node c = (omega arith, added-past _ _ _ _ _ c.if-nodes-node.true)

pub returns-then-all-old : goal.returns-then-all-old
returns-then-all-old c = (omega arith, added_none _ _ _ _ _ c.if-all-old.true)

pub overflow_sub-fresh : goal.overflow_sub-fresh
overflow_sub-fresh c = or-over _ _

pub returns-then-before-ne0 : goal.returns-then-before-ne0
returns-then-before-ne0 c =
    let all_small : bit_or (get_or c.args.reached.now c.args.node 0) c.args.states < 2 ^ 32 = let a = c.args in
    let old : get_or a.reached.now a.node 0 < 2 ^ 32 = omega (arith, c.slice_known-1.given a.node) in
    or_lt 32 _ a.states old (omega (arith, c.ranges.states)) in
    let known = c in
    let start = known in
    let a = start.args in
    (omega arith, added a.nodes a.node a.states a.reached.now a.fresh.now (omega arith) (omega arith) (omega arith) (all_small))

pub returns : goal.returns
returns c =
    let all_small : bit_or (get_or c.args.reached.now c.args.node 0) c.args.states < 2 ^ 32 = let a = c.args in
    let old : get_or a.reached.now a.node 0 < 2 ^ 32 = omega (arith, c.slice_known-1.given a.node) in
    or_lt 32 _ a.states old (omega (arith, c.ranges.states)) in
    let known = c in
    let start = known in
    let a = start.args in
    (c.push.ensures, added a.nodes a.node a.states a.reached.now a.fresh.now (omega arith) (omega arith) (omega arith) (all_small))
