-- `tree::file::is_zero_from` meets its contract. The invariant: where what was joined is 0, the bytes up to the present one are.
-- Assumes nothing.
use borrow.Author.Tests.{eqb-true}
use native.Mathlib.Omega.{arith}
use Rattle.tree.proofs.Unpacking.{zero_more}
use Rattle.tree.proofs.file.is_zero_from.Goals as goal

pub loop-at-init : goal.loop-at-init
loop-at-init c z j lo hi = absurd (omega arith)

pub loop-at-preserved : goal.loop-at-preserved
loop-at-preserved c =
    let l = c.loop-at in
    zero_more c.args.content.now _ l.at l.all l.invariant

pub returns : goal.returns
returns c e j lo hi = c.loop-at.invariant (eqb-true _ _ e) j lo (omega arith)
