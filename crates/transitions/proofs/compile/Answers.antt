-- `transitions::compile` meets its contract. The invariant: the table is that of the first i rules.
-- Assumes nothing.
use borrow.Author.Rules.{rules}
use mathlib.Core.Path.{◌≡◌, refl}
use Rattle.transitions.proofs.Laws.{none-held, one-held}
use Rattle.transitions.proofs.compile.Goals as goal

pub loop-i-init : goal.loop-i-init
loop-i-init c = (search rules, rw c.requires.1 (none-held _ _ _ refl))

pub loop-i-preserved : goal.loop-i-preserved
loop-i-preserved c = (search rules, one-held _ _ _ _ _ c.loop-i.invariant.1 c.add_rule_at.ensures)

pub returns : goal.returns
returns c =
    let end : c.loop-i.i ≡ c.args.header.rules = search rules in
    rw end at c.loop-i.invariant.1
