-- `interchange::fill_entered` meets its contract. The invariant: the symbols before are filled in.
-- Assumes nothing.
use native.Mathlib.Omega.{arith}
use mathlib.Core.Path.{◌≡◌}
use lib.ListN.{length-set}
use Rattle.interchange.specs.Interchange.{EntersAt}
use Rattle.interchange.proofs.Laws.{words-none, words_more}
use borrow.Author.Rules.{rules}
use Rattle.interchange.proofs.fill_entered.Goals as goal

pub loop-symbol-init : goal.loop-symbol-init
loop-symbol-init c = (search rules, c.requires.1, λ A k. words-none (EntersAt A) c.args.entered.now)

pub bounds-entered-at-in-loop-symbol : goal.bounds-entered-at-in-loop-symbol
bounds-entered-at-in-loop-symbol c = simp length-set (search rules)

pub loop-symbol-preserved : goal.loop-symbol-preserved
loop-symbol-preserved c =
    let l = c.loop-symbol in (
      search rules,
      simp length-set l.invariant.1,
      λ A k. words_more (EntersAt A) l.symbol l.entered _ _ (omega arith) (l.invariant.2 A k) (c.entered_by.ensures A k) (c.entered_by-in-loop-symbol.ensures A k),
    )

pub returns : goal.returns
returns c =
    λ A k.
    let end : c.loop-symbol.symbol ≡ c.args.symbols = search rules in
    rw end at (c.loop-symbol.invariant.2 A k)
