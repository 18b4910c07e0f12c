-- `overloops::moves_in` meets its contract: the rows of a compiled table are the pairs of the transitions.
-- Assumes nothing.
use borrow.Author.Rules.{rules}
use Prim.Native.Nat.{◌+◌, ◌-◌, ◌≤◌}
use native.Mathlib.Omega.{arith}
use mathlib.Core.Path.{◌≡◌}
use lib.ListN.{length}
use Rattle.overloops.proofs.Laws.{part_length, moves-are}
use Rattle.overloops.proofs.moves_in.Goals as goal

pub returns : goal.returns
returns c =
    let t = c.args.table.now in
    let at = c.cell-at.result in
    let room : at + 24 ≤ length t = search rules in
    let count : at + 24 - at ≡ 24 = omega arith in
    rw count (part_length t at room, λ A k. rw c.cell-at.ensures.0 (moves-are A _ _ _ _ c.requires.1 k))
