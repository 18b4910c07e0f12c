-- `determinism::one_symbols` meets its contract. The invariant: each of the first symbols has one choice in each state, at each place.
-- Assumes nothing.
use borrow.Author.Rules.{rules}
use mathlib.Core.Path.{◌≡◌, sym, ◌∙◌}
use Rattle.determinism.proofs.Each.{each_none, each_next, each-fails}
use Rattle.determinism.proofs.one_symbols.Goals as goal

pub loop-symbol-init : goal.loop-symbol-init
loop-symbol-init c = (search rules, each_none _)

pub returns-then-not-one_places : goal.returns-then-not-one_places
returns-then-not-one_places c = sym (each-fails _ c.loop-symbol.symbol c.args.symbols (search rules) (sym c.one_places.ensures ∙ c.if-not-one_places.true))

pub loop-symbol-preserved : goal.loop-symbol-preserved
loop-symbol-preserved c = (search rules, each_next _ _ c.loop-symbol.invariant.1 (sym c.one_places.ensures ∙ c.if-not-one_places.false))

pub returns : goal.returns
returns c =
    let end : c.loop-symbol.symbol ≡ c.args.symbols = search rules in
    sym (rw end at c.loop-symbol.invariant.1)
