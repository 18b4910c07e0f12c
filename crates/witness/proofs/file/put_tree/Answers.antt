-- `witness::file::put_tree` meets its contract.
-- Assumes nothing.
use Rattle.witness.specs.Plan.{plan_tree}
use Rattle.block_writer.proofs.Front.{front}
use Rattle.tree.specs.Payload.{tree_file}
use Rattle.witness.proofs.Space.{file-long}
use Rattle.nodes.proofs.Standing.{size-preorder}
use Rattle.nodes.specs.Preorder.{preorder}
use lib.ListN.{take}
use mathlib.Core.Path.{◌≡◌, sym, ◌∙◌}
use Rattle.witness.proofs.file.put_tree.Goals as goal

pub slice_bounds-write_tree-end : goal.slice_bounds-write_tree-end
slice_bounds-write_tree-end c =
    -- what was written is the node list
    let nodes_are : take c.write_nodes-k.result c.write_nodes-k.new.nodes ≡ preorder (plan_tree c.args.plan.now) = front _ _ _ _ (c.write_nodes-k.ensures.0 ∙ sym (size-preorder _)) c.write_nodes-k.ensures.1 in
    rw (nodes_are) (c.write_nodes-k.ensures.0 ∙ sym (size-preorder _))

pub write_tree-requires : goal.write_tree-requires
write_tree-requires c =
    -- what was written is the node list
    let nodes_are : take c.write_nodes-k.result c.write_nodes-k.new.nodes ≡ preorder (plan_tree c.args.plan.now) = front _ _ _ _ (c.write_nodes-k.ensures.0 ∙ sym (size-preorder _)) c.write_nodes-k.ensures.1 in
    rw (nodes_are, size-preorder (plan_tree c.args.plan.now)) (c.requires.1, rw (file-long c.args.plan.now) at c.requires.2)

pub returns : goal.returns
unfolding tree_file
returns c =
    -- what was written is the node list
    let nodes_are : take c.write_nodes-k.result c.write_nodes-k.new.nodes ≡ preorder (plan_tree c.args.plan.now) = front _ _ _ _ (c.write_nodes-k.ensures.0 ∙ sym (size-preorder _)) c.write_nodes-k.ensures.1 in
    rw (nodes_are) at c.write_tree.ensures
