-- `relation::Relation::join` meets its contract: the loop replaces each row by that of `joined`. Assumes nothing.
use mathlib.Core.Path.{◌≡◌, refl, sym, ◌∙◌}
use native.Mathlib.Omega.{arith}
use lib.ListN.{length}
use borrow.Author.Rules.{rules}
use Rattle.relation.specs.Rows.{joined}
use Rattle.relation.proofs.Pairs.{length-joined}
use Rattle.relation.proofs.Over.{over_done}
use Rattle.relation.proofs.Turns.{join-turn}
use Rattle.relation.proofs.Relation.join.Goals as goal

pub loop-p-init : goal.loop-p-init
loop-p-init c = (search rules, refl)

pub loop-p-preserved : goal.loop-p-preserved
loop-p-preserved c =
    let a = c.args.self.rows in
    let b = c.args.other.rows in
    let at = c.loop-p in
    let la : length a ≡ 24 = search rules in
    let lb : length b ≡ 24 = search rules in
    (search rules, join-turn a b at.self.rows at.p (la ∙ sym lb) (omega arith) at.invariant.1)

pub returns : goal.returns
returns c =
    let a = c.args.self.rows in
    let b = c.args.other.rows in
    let at = c.loop-p in
    let la : length a ≡ 24 = search rules in
    let lb : length b ≡ 24 = search rules in
    over_done (joined a b) a at.self.rows at.p (length-joined a b (la ∙ sym lb)) (omega arith) at.invariant.1
