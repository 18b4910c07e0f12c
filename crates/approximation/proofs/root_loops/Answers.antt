-- `approximation::root_loops` meets its contract. The invariant: the loops of the symbols below the symbol are joined.
-- Assumes nothing.
use borrow.Author.Rules.{rules}
use Prim.Native.Nat.{ℕ}
use mathlib.Core.Path.{◌≡◌, sym, ap, ap₂, ◌∙◌}
use mathlib.Core.List.{List}
use Rattle.relation.specs.declared.Relation.{Relation}
use Rattle.relation.specs.Rows.{joined}
use Rattle.algorithms.specs.Approximate.{union}
use Rattle.classes.specs.Classes.{parts_in}
use Rattle.approximation.proofs.Unions.{root-branch, root-leaf, root-gathered}
use Rattle.approximation.proofs.root_loops.Goals as goal
use Rattle.approximation.proofs.root_loops.Goals.{then-is_branch, else-is_branch}

abbrev rows_in : Relation → List ℕ
rows_in r = r.rows

pub loop-symbol-init : goal.loop-symbol-init
unfolding union
loop-symbol-init c = (search rules, λ A k. c.empty-loops.ensures)

pub loop-symbol-preserved : goal.loop-symbol-preserved
unfolding union
loop-symbol-preserved c = (
  search rules,
  λ A k.
      let at = c.loop-symbol in
      let x = parts_in c.args.sets in
      let branches = c.args.header.branches in
      elim c.if-is_branch.branch [
        | then-is_branch w ↦ ap rows_in w.loops-is ∙ w.join-loops.ensures ∙ ap₂ joined (at.invariant.1 A k) (w.node_loops.ensures A k)
            ∙ root-branch A x branches at.symbol (sym c.is_branch.ensures ∙ w.if-is_branch.true)
        | else-is_branch w ↦ ap rows_in w.loops-is ∙ w.join-loops-else-is_branch.ensures ∙ ap₂ joined (at.invariant.1 A k) (w.leaf_loops.ensures A k)
            ∙ root-leaf A x branches at.symbol (sym c.is_branch.ensures ∙ w.if-is_branch.false)
      ],
)

pub returns : goal.returns
unfolding union
returns c =
    λ A k.
    let h = c.args.header in
    let end : c.loop-symbol.symbol ≡ h.symbols = search rules in
    rw end at (c.loop-symbol.invariant.1 A k.tabled) ∙ root-gathered A h _ k _
