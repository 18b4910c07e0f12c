-- `candidates::try_leaves` meets its contract. The invariant: the leaf symbols before were tried.
-- Assumes nothing.
use borrow.Author.Rules.{rules}
use mathlib.Core.Path.{◌≡◌, refl}
use mathlib.Core.List.{flat_map}
use Rattle.classes.proofs.Symbols.{set_snoc, set_split}
use Rattle.candidates.proofs.Trying.{no_rows, begun, turn, ended, few-kept}
use Rattle.candidates.proofs.try_leaves.Goals as goal

pub loop-symbol-init : goal.loop-symbol-init
unfolding flat_map
loop-symbol-init c = (search rules, search rules, λ A k. begun A refl (no_rows A))

pub returns-in-Accepted : goal.returns-in-Accepted
returns-in-Accepted c = (tt, λ A k. ended A _ (set_split _ 0 c.args.prepared.header.branches c.loop-symbol.symbol c.args.prepared.header.symbols (search rules)) (turn A (set_snoc _ 0 c.args.prepared.header.branches c.loop-symbol.symbol) (c.loop-symbol.invariant.2 A k) (λ g. c.try_if_leaf.ensures.1 A k _ _ g) c.in-Accepted.is))

pub loop-symbol-preserved : goal.loop-symbol-preserved
loop-symbol-preserved c = (search rules, few-kept c.in-Kept.is c.try_if_leaf.ensures.0, λ A k. turn A (set_snoc _ 0 c.args.prepared.header.branches c.loop-symbol.symbol) (c.loop-symbol.invariant.2 A k) (λ g. c.try_if_leaf.ensures.1 A k _ _ g) c.in-Kept.is)

pub returns : goal.returns
returns c = (
  c.loop-symbol.invariant.1,
  λ A k.
      let end : c.loop-symbol.symbol ≡ c.args.prepared.header.symbols = search rules in
      rw end at (c.loop-symbol.invariant.2 A k),
)
