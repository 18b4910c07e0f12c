-- `relation::Relation::count` meets its contract: at each turn the rows from p on are still to be counted. Assumes nothing.
use mathlib.Core.Path.{◌≡◌, ap}
use native.Mathlib.Omega.{arith}
use native.Mathlib.Nat.{zero-add}
use lib.Count.{ones-le}
use mir.Syntax.{w32}
use mir.Val.{Fits}
use lib.ListN.{length, get_or, drop_of_length-le}
use Rattle.relation.specs.Rows.{count_of}
use Rattle.relation.proofs.Turns.{count_turn}
use borrow.Author.Rules.{rules}
use Rattle.relation.proofs.Relation.count.Goals as goal

pub loop-p-init : goal.loop-p-init
loop-p-init c = (search rules, search rules, zero-add (count_of c.args.self.rows))

pub overflow_add-n : goal.overflow_add-n
overflow_add-n c =
    let row = get_or c.args.self.rows c.loop-p.p 0 in
    let f : Fits w32 row = search rules in
    omega (arith, ones-le 32 row f.fits)

pub loop-p-preserved : goal.loop-p-preserved
loop-p-preserved c =
    let a = c.args.self.rows in
    let at = c.loop-p in
    let f : Fits w32 (get_or a at.p 0) = search rules in
    let la : length a ≡ 24 = search rules in
    (omega arith, omega (arith, ones-le 32 (get_or a at.p 0) f.fits), omega (arith, count_turn a at.p (omega arith) f.fits))

pub returns : goal.returns
returns c =
    let a = c.args.self.rows in
    let at = c.loop-p in
    let la : length a ≡ 24 = search rules in
    (omega (arith, ap count_of (drop_of_length-le a {i = at.p} (omega arith))), omega arith)
