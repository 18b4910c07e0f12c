-- `judging::by_search` meets its contract.
-- Assumes nothing.
use Rattle.judging.proofs.Laws.{judges}
use mathlib.Core.Path.{◌≡◌}
use Prim.Native.Nat.{◌+◌, ◌-◌}
use native.Mathlib.Omega.{arith}
use borrow.Author.Rules.{rules}
use Rattle.judging.proofs.by_search.Goals as goal

pub overflow_add-last : goal.overflow_add-last
overflow_add-last c = let few = (c.unpack.ensures _ c.in-Some.is).few in search rules

pub slice_bounds-judge_nodes-end : goal.slice_bounds-judge_nodes-end
slice_bounds-judge_nodes-end c = (c.unpack.ensures _ c.in-Some.is).size

pub judge_nodes-requires : goal.judge_nodes-requires
judge_nodes-requires c = let few = (c.unpack.ensures _ c.in-Some.is).few in search rules

pub returns : goal.returns
returns c =
    λ A k.
    let n = c.in-Some.k in
    let u = c.unpack.ensures _ c.in-Some.is in
    let same : 4 + n - 4 ≡ n = omega arith in
    judges A _ _ k _ _ _ u c.judge_nodes.result (rw (same, u.nodes) at (c.judge_nodes.ensures A k))
