-- `membership::leaves::put_symbol` meets its contract.
-- Assumes nothing.
use mathlib.Core.Path.{sym, ◌∙◌}
use Rattle.membership.proofs.LeafTables.{branch-passed, leaf-passed}
use Rattle.membership.proofs.leaves.put_symbol.Goals as goal

pub returns-then-is_branch : goal.returns-then-is_branch
returns-then-is_branch c = (λ A k h. branch-passed A _ _ _ _ (sym c.is_branch.ensures ∙ c.if-is_branch.true) h, c.requires.2, c.requires.3)

pub returns : goal.returns
returns c =
    let first = c.put_leaf.ensures in
    let second = c.put_leaf-2.ensures in
    (λ A k h. leaf-passed A _ _ _ _ _ _ _ _ h c.requires.1 (first.0 A k) (second.0 A k), second.1, second.2)
