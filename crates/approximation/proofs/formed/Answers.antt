-- `approximation::formed` meets its contract. The invariant: what the branch symbols below the symbol form is joined to the sets.
-- Assumes nothing.
use borrow.Author.Rules.{rules}
use mathlib.Core.Path.{◌≡◌, refl, sym, ap, ◌∙◌}
use mathlib.Core.Bool.{true, false}
use Rattle.algorithms.specs.Saturate.{algebra_of}
use Rattle.classes.specs.Classes.{parts_in}
use Rattle.approximation.proofs.Unions.{full-node_class, gathered_none, gathered-turn, branches-gathered}
use Rattle.approximation.proofs.formed.Goals as goal
use Rattle.approximation.proofs.formed.Goals.{then-is_branch, else-is_branch}

pub loop-symbol-init : goal.loop-symbol-init
loop-symbol-init c = (search rules, λ A k. sym (gathered_none _ (record { left = search rules; right = search rules }) _))

pub loop-symbol-preserved : goal.loop-symbol-preserved
loop-symbol-preserved c = (
  search rules,
  λ A k.
      let at = c.loop-symbol in
      let x = parts_in c.args.sets in
      let branches = c.args.header.branches in
      let turn = gathered-turn x (record { left = search rules; right = search rules }) (λ σ. (algebra_of A).node_class σ x x) (full-node_class A x x) 1 branches at.symbol in
      elim c.if-is_branch.branch [
        | then-is_branch w ↦ turn true _ _ _ (sym c.is_branch.ensures ∙ w.if-is_branch.true) (at.invariant.1 A k) (w.node_class.ensures A k) (ap parts_in w.more-is ∙ w.join-more.ensures)
        | else-is_branch w ↦ turn false _ _ _ (sym c.is_branch.ensures ∙ w.if-is_branch.false) (at.invariant.1 A k) refl (ap parts_in w.more-is)
      ],
)

pub returns : goal.returns
returns c =
    λ A k.
    let h = c.args.header in
    let end : c.loop-symbol.symbol ≡ h.symbols = search rules in
    rw end at (c.loop-symbol.invariant.1 A k.tabled) ∙ branches-gathered A h _ k _
