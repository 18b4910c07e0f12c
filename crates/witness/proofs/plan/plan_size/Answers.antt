-- `witness::plan::plan_size` meets its contract.
-- Assumes nothing.
use Rattle.witness.proofs.Writing.{sized-more}
use lib.ListN.{length-set}
use native.Mathlib.Omega.{arith}
use borrow.Author.Rules.{rules}
use Rattle.witness.proofs.plan.plan_size.Goals as goal

pub loop-i-init : goal.loop-i-init
loop-i-init c = (search rules, search rules, λ k l. absurd (omega arith))

pub overflow_cast-i : goal.overflow_cast-i
overflow_cast-i c = omega (arith, c.requires.few)

pub row_size-here-requires : goal.row_size-here-requires
row_size-here-requires c = (c.requires, search rules, c.loop-i.invariant.2)

pub loop-i-preserved : goal.loop-i-preserved
loop-i-preserved c =
    let l = c.loop-i in
    let a = c.args in
    (search rules, simp length-set (search rules), sized-more a.plan.now l.sizes l.i c.row_size-here.result (search rules) l.invariant.2 c.row_size-here.ensures)

pub returns : goal.returns
returns c = c.loop-i.invariant.2 _ (omega (arith, c.requires.some))
