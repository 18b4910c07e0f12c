-- A tree that is written can be read: `ReadsBack` is what the file of a tree comes to.
-- Interface: `ReadsBack`.
use Rattle.std.specs.Prelude.{◌≡◌, Ok}
use Rattle.blocks.specs.Blocks.{content}
use Rattle.model.specs.Trees.{Tree, size}
use Rattle.model.specs.declared.Signature.{Signature}
use Rattle.tree.specs.File.{nodes_of, read_tree}
use Rattle.nodes.specs.Nodes.{tree_of}
use Rattle.tree.specs.Payload.{tree_file}
use Rattle.nodes.specs.Preorder.{Writes}

-- the file is not refused, its nodes write the tree, and the tree is the one that is read
pub record ReadsBack (sg : Signature) (t : Tree) : Type 0 where
  pub read : read_tree sg (tree_file t) ≡ Ok (size t)
  pub writes : Writes sg (nodes_of (size t) (content (tree_file t))) t
  pub tree : tree_of sg.branches (nodes_of (size t) (content (tree_file t))) ≡ t
