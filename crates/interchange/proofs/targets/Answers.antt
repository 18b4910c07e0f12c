-- `interchange::targets` meets its contract. The invariant: the pairs of the first p rows lead into the set.
-- Assumes nothing.
use native.Mathlib.Omega.{arith}
use Rattle.interchange.proofs.Laws.{lead-more, lead-done}
use borrow.Author.Rules.{rules}
use Rattle.interchange.proofs.targets.Goals as goal

pub loop-p-init : goal.loop-p-init
loop-p-init c = (search rules, λ k q l b. absurd (omega arith))

pub loop-p-preserved : goal.loop-p-preserved
loop-p-preserved c =
    let l = c.loop-p in
    (search rules, lead-more c.args.table.now c.args.at l.p l.set l.invariant.1)

pub returns : goal.returns
returns c =
    let l = c.loop-p in
    lead-done c.args.table.now c.args.at l.p l.set c.requires (search rules) l.invariant.1
