-- `bottom_up::judge_nodes` meets its contract.
-- Assumes nothing.
use mathlib.Core.Path.{refl}
use borrow.Author.Rules.{rules}
use Rattle.bottom_up.proofs.judge_nodes.Goals as goal

pub concluded-requires : goal.concluded-requires
concluded-requires c = (search rules, rw c.in-Some.is at c.pass.ensures.1)

pub returns-in-Some : goal.returns-in-Some
returns-in-Some c = λ A k h. let p = c.pass.ensures.0 A k.tabled h in (p.0, c.concluded.ensures A _ _ k refl (rw c.in-Some.is at p.1))

pub returns-in-None : goal.returns-in-None
returns-in-None c = λ A k h. ((c.pass.ensures.0 A k.tabled h).0, c.unknown.ensures A _ _)
