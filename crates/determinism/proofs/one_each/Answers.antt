-- `determinism::one_each` meets its contract. The invariant: each of the first p states has one choice.
-- Assumes nothing.
use borrow.Author.Rules.{rules}
use mathlib.Core.Path.{◌≡◌, sym, ◌∙◌}
use Rattle.determinism.proofs.Each.{each_none, each_next, each-fails}
use Rattle.determinism.proofs.one_each.Goals as goal

pub loop-p-init : goal.loop-p-init
loop-p-init c = (search rules, each_none _)

pub returns-then-not-one_choice : goal.returns-then-not-one_choice
returns-then-not-one_choice c = sym (each-fails _ c.loop-p.p c.args.states (search rules) (sym c.one_choice.ensures ∙ c.if-not-one_choice.true))

pub loop-p-preserved : goal.loop-p-preserved
loop-p-preserved c = (search rules, each_next _ _ c.loop-p.invariant.1 (sym c.one_choice.ensures ∙ c.if-not-one_choice.false))

pub returns : goal.returns
returns c =
    let end : c.loop-p.p ≡ c.args.states = search rules in
    sym (rw end at c.loop-p.invariant.1)
