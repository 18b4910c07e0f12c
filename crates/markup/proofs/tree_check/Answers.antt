-- `markup::tree_check` meets its contract.
-- Assumes nothing.
use Rattle.std.proofs.Common.{Ok}
use mathlib.Core.Path.{◌≡◌, sym, ap, ◌∙◌}
use native.Mathlib.Omega.{arith}
use lib.ListN.{length}
use Rattle.nodes.specs.Nodes.{height_check}
use Rattle.markup.specs.Checks.{text_tree, tag_check}
use Rattle.markup.proofs.Checked.{zero-tag, nodes-passed, large-tree, small-tree}
use Rattle.markup.proofs.tree_check.Goals as goal

pub returns-then-is_branch : goal.returns-then-is_branch
returns-then-is_branch c = rw (zero-tag c.args.signature c.args.text.now (sym c.is_branch.ensures ∙ c.if-is_branch.true)) c.refused.ensures

pub refused_tree-requires : goal.refused_tree-requires
refused_tree-requires c =
    let q = c.requires in
    record {
      signed = (q.0, q.1, sym c.is_branch.ensures ∙ c.if-is_branch.false);
      count_value = (ap length q.2, rw (← q.2) (sym c.check.ensures ∙ c.in-Err.is));
    }

pub returns-then-nodes-gt4096 : goal.returns-then-nodes-gt4096
returns-then-nodes-gt4096 c =
    -- lines 10 to 12 pass the nodes, and so 19 and 12 pass the text
    let both : (tag_check c.args.signature c.args.text.now ≡ Ok tt) × (height_check (text_tree c.args.text.now) ≡ Ok tt) =
    nodes-passed c.args.signature c.args.text.now c.requires.0 c.requires.1 (sym c.is_branch.ensures ∙ c.if-is_branch.false)
    (rw (← c.requires.2) (sym c.check.ensures ∙ c.in-Ok.is)) in
    c.refused-then-nodes-gt4096.ensures ∙ sym (large-tree _ _ c.requires.1 both.0 (rw (← c.requires.2) c.if-nodes-gt4096.true))

pub returns-else-nodes-gt4096 : goal.returns-else-nodes-gt4096
returns-else-nodes-gt4096 c =
    -- lines 10 to 12 pass the nodes, and so 19 and 12 pass the text
    let both : (tag_check c.args.signature c.args.text.now ≡ Ok tt) × (height_check (text_tree c.args.text.now) ≡ Ok tt) =
    nodes-passed c.args.signature c.args.text.now c.requires.0 c.requires.1 (sym c.is_branch.ensures ∙ c.if-is_branch.false)
    (rw (← c.requires.2) (sym c.check.ensures ∙ c.in-Ok.is)) in
    sym (small-tree _ _ c.requires.1 both.0 (omega (arith, ap length c.requires.2, c.if-nodes-gt4096.false)) ∙ both.1)
