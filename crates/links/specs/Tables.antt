-- For the code: what a node list and the tables of its links hold of a tree.
-- Interface: `Tables`.
use Rattle.std.specs.Prelude.{ℕ, ◌≤◌, ◌<◌, ◌≡◌, List, length, get_or}
use Rattle.model.specs.Trees.{Tree, size}
use Rattle.nodes.specs.Preorder.{preorder}
use Rattle.links.specs.Links.{parents_of, rights_of}

-- the list is the tree's nodes, and the two tables begin with their parents and right parts
pub record Tables (t : Tree) (s P R : List ℕ) : Type 0 where
  pub few_nodes : size t ≤ 4096
  pub nodes_are : s ≡ preorder t
  pub parents_long : size t ≤ length P
  pub parents_are : (i : ℕ) → i < size t → get_or P i 0 ≡ get_or (parents_of t) i 0
  pub rights_long : size t ≤ length R
  pub rights_are : (i : ℕ) → i < size t → get_or R i 0 ≡ get_or (rights_of t) i 0
