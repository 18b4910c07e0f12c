-- `steps::leads::descends` meets its contract: a leaf has no parts.
-- Assumes nothing.
use native.Mathlib.Omega.{arith}
use mathlib.Core.Path.{refl}
use borrow.Author.Tests.{ne_eqb}
use Rattle.steps.proofs.Leading.{no_part}
use Rattle.steps.proofs.leads.descends.Goals as goal

pub overflow_cast-right : goal.overflow_cast-right
overflow_cast-right c = omega (arith, c.type_inv.rights c.args.node)

pub returns-then-right-eq0 : goal.returns-then-right-eq0
returns-then-right-eq0 c =
    let a = c.args in
    λ parents q. no_part parents a.rights.now a.node a.next a.side q c.if-right-eq0.true

pub returns-in-Left : goal.returns-in-Left
returns-in-Left c = λ parents q. rw (c.in-Left.is, ne_eqb _ 0 c.if-right-eq0.false) refl

pub returns-in-Right : goal.returns-in-Right
returns-in-Right c = λ parents q. rw (c.in-Right.is, ne_eqb _ 0 c.if-right-eq0.false) refl
