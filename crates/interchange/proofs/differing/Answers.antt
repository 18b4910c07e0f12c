-- `interchange::differing` meets its contract. The invariant: the first p rows are the same but at the states of the set.
-- Assumes nothing.
use native.Mathlib.Omega.{arith}
use Rattle.interchange.proofs.Laws.{same_more, same-done}
use borrow.Author.Rules.{rules}
use Rattle.interchange.proofs.differing.Goals as goal

pub loop-p-init : goal.loop-p-init
loop-p-init c = (search rules, λ k l b. absurd (omega arith))

pub loop-p-preserved : goal.loop-p-preserved
loop-p-preserved c =
    let l = c.loop-p in
    (search rules, same_more c.args.rows.now c.args.x c.args.y l.p l.set c.unlike-set.result l.invariant.1 c.unlike-set.ensures)

pub returns : goal.returns
returns c =
    let l = c.loop-p in
    same-done c.args.rows.now c.args.x c.args.y l.p l.set c.requires.0 c.requires.1 (search rules) l.invariant.1
