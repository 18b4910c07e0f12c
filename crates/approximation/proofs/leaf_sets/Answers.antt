-- `approximation::leaf_sets` meets its contract. The invariant: the leaves below the symbol are joined.
-- Assumes nothing.
use borrow.Author.Rules.{rules}
use mathlib.Core.Path.{◌≡◌, refl, sym, ap, ap₂, ◌∙◌}
use mathlib.Core.Bool.{true, false}
use Rattle.algorithms.specs.Saturate.{parts, algebra_of}
use Rattle.classes.specs.Classes.{parts_in}
use Rattle.approximation.proofs.Unions.{full-leaf_class, nothing, full-nothing, gathered_none, gathered-turn, leaves-gathered}
use Rattle.approximation.proofs.leaf_sets.Goals as goal
use Rattle.approximation.proofs.leaf_sets.Goals.{then-not-is_branch, else-not-is_branch}

pub loop-symbol-init : goal.loop-symbol-init
loop-symbol-init c = (search rules, λ A P k. ap₂ parts c.empty.ensures c.empty-2.ensures ∙ sym (gathered_none nothing full-nothing (algebra_of A).leaf_class))

pub loop-symbol-preserved : goal.loop-symbol-preserved
loop-symbol-preserved c = (
  search rules,
  λ A P k.
      let at = c.loop-symbol in
      let branches = c.args.header.branches in
      let turn = gathered-turn nothing full-nothing (algebra_of A).leaf_class (full-leaf_class A) 0 branches at.symbol in
      elim c.if-not-is_branch.branch [
        | then-not-is_branch w ↦ turn false _ _ _ (sym c.is_branch.ensures ∙ w.if-not-is_branch.true) (at.invariant.1 A P k) (w.leaf_class.ensures A P k) (ap parts_in w.sets-is ∙ w.join-sets.ensures)
        | else-not-is_branch w ↦ turn true _ _ _ (sym c.is_branch.ensures ∙ w.if-not-is_branch.false) (at.invariant.1 A P k) refl (ap parts_in w.sets-is)
      ],
)

pub returns : goal.returns
returns c =
    λ A t k.
    let h = c.args.header in
    let end : c.loop-symbol.symbol ≡ h.symbols = search rules in
    rw end at (c.loop-symbol.invariant.1 A k.headed.tabled.proper k.leaves_are) ∙ leaves-gathered A h t k.headed
