-- `membership::leaves::fill` meets its contract. The invariant: the leaf symbols below the symbol are filled in.
-- Assumes nothing.
use borrow.Author.Rules.{rules}
use mathlib.Core.Path.{◌≡◌}
use Rattle.membership.proofs.LeafTables.{no-parts}
use Rattle.membership.proofs.leaves.fill.Goals as goal

pub loop-symbol-init : goal.loop-symbol-init
loop-symbol-init c = (search rules, c.requires.2, c.requires.3, λ A k. no-parts A _ _ _ c.requires.2 c.requires.3)

pub loop-symbol-preserved : goal.loop-symbol-preserved
loop-symbol-preserved c =
    let put = c.put_symbol.ensures in
    (search rules, put.1, put.2, λ A k. put.0 A k (c.loop-symbol.invariant.3 A k))

pub returns : goal.returns
returns c =
    λ A k.
    let end : c.loop-symbol.symbol ≡ c.args.symbols = search rules in
    rw end at (c.loop-symbol.invariant.3 A k)
