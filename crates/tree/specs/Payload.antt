-- The payload of a tree's file (document 01, the letter file). `payload_of` and `tree_file` are the definitions to cite.
-- Interface: `payload_of`, `tree_file`.
use Rattle.std.specs.Prelude.{ℕ, ◌/◌, ◌%◌, List, ◌∷◌, length}
use Rattle.blocks.specs.FileOf.{file_of}
use Rattle.model.specs.Trees.{Tree}
use Rattle.nodes.specs.Preorder.{preorder}

-- "Offset 0: kind 84. 1: zero. 2-3: nodes k, .. low byte first. From 4, one symbol a node"
unfoldable pub payload_of : (symbols : List ℕ) → List ℕ
payload_of symbols = 84 ∷ 0 ∷ length symbols % 256 ∷ length symbols / 256 ∷ symbols

-- the file of a tree
unfoldable pub tree_file : Tree → List ℕ
tree_file t = file_of (payload_of (preorder t))
