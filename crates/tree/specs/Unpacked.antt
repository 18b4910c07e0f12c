-- What a buffer holds where a tree's file was unpacked in it: the joined contents, which lines 1 to 6 do not refuse.
-- Interface: `Clear`, `Unpacked`.
use Rattle.std.specs.Prelude.{ℕ, ◌+◌, ◌≤◌, ◌<◌, ◌≡◌, List, length, take, drop, Ok}
use Rattle.blocks.specs.Blocks.{content}
use Rattle.model.specs.declared.Signature.{Signature}
use Rattle.refusal.specs.Lines.{filler_check}
use Rattle.nodes.specs.Nodes.{nodes_check}
use Rattle.tree.specs.File.{tree_format, count_of, nodes_of, layout_check, read_tree}

-- contents with k nodes, which lines 3 to 6 do not refuse
pub record Clear (p : List ℕ) (k : ℕ) : Type 0 where
  pub count : k ≡ count_of p
  pub layout : layout_check p ≡ Ok tt
  pub filler : filler_check tree_format (4 + count_of p) p ≡ Ok tt

-- the file s has k nodes, which the buffer holds from 4 on; lines 10 to 12 are left
pub record Unpacked (s : List ℕ) (k : ℕ) (buffer : List ℕ) : Type 0 where
  pub some : 0 < k
  pub few : k ≤ 4096
  pub size : 4 + k ≤ length buffer
  pub nodes : take k (drop 4 buffer) ≡ nodes_of k (content s)
  pub length_is : length (nodes_of k (content s)) ≡ k
  pub reads : (sg : Signature) → nodes_check sg (nodes_of k (content s)) ≡ Ok tt → read_tree sg s ≡ Ok k
