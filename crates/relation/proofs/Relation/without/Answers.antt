-- `relation::Relation::without` meets its contract: the loop replaces each row by that of `without`. Assumes nothing.
use mathlib.Core.Path.{◌≡◌, refl}
use native.Mathlib.Omega.{arith}
use lib.ListN.{length}
use borrow.Author.Rules.{rules}
use Rattle.relation.specs.Growth.{without}
use Rattle.relation.proofs.Growing.{length_without, without-turn}
use Rattle.relation.proofs.Over.{over_done}
use Rattle.relation.proofs.Relation.without.Goals as goal

pub loop-p-init : goal.loop-p-init
loop-p-init c = (search rules, refl)

pub loop-p-preserved : goal.loop-p-preserved
loop-p-preserved c =
    let a = c.args.self.rows in
    let b = c.args.other.rows in
    let at = c.loop-p in
    let la : length a ≡ 24 = search rules in
    (search rules, without-turn a b at.self.rows at.p c.lacked.result (omega arith) at.invariant.1 c.lacked.ensures)

pub returns : goal.returns
returns c =
    let a = c.args.self.rows in
    let b = c.args.other.rows in
    let at = c.loop-p in
    let la : length a ≡ 24 = search rules in
    over_done (without a b) a at.self.rows at.p (length_without a b) (omega arith) at.invariant.1
