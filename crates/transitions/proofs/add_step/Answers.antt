-- `transitions::add_step` meets its contract: the store is to the cell of the rule's numbers, and to no other.
-- Assumes nothing.
use native.Mathlib.Omega.{arith}
use Rattle.relation.proofs.BitLaws.{one_shl}
use Rattle.transitions.proofs.Laws.{stepped}
use Rattle.transitions.proofs.add_step.Goals as goal

pub returns : goal.returns
returns c =
    let a = c.args in
    rw (c.cell-at.ensures.0, one_shl a.rule.next.0 (omega arith)) (stepped a.table.now a.rule a.place c.requires.0 c.requires.1)
