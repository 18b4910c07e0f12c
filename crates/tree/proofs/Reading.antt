-- What is known of a file that is read: its nodes, and the tree that they write.
-- Assumes nothing.
use Rattle.std.proofs.Common.{Ok, Err}
use Prim.Native.Nat.{ℕ, ◌+◌, ◌≤◌}
use native.Mathlib.Omega.{arith}
use mathlib.Core.Path.{◌≡◌, refl}
use mathlib.Core.List.{List}
use lib.ListN.{length, take, drop, length-drop}
use lib.Seq.{length-take-le, take_at}
use Rattle.blocks.specs.Blocks.{content}
use Rattle.model.specs.declared.Signature.{Signature}
use Rattle.refusal.specs.Checks.{◌and_then◌, Check}
use Rattle.refusal.specs.Lines.{file_check, kind_check, count_check, size_check, filler_check}
use Rattle.refusal.proofs.Passed.{clash, both-passed, count-passed, size-passed}
use Rattle.nodes.specs.Preorder.{Writes, Stands}
use Rattle.nodes.specs.Nodes.{tree_of, nodes_check}
use Rattle.tree.specs.File.{tree_format, count_of, nodes_of, layout_check, body_check, nodes_if, read_tree, nodes_after}
use Rattle.nodes.proofs.Laws.{writes, read-stands}

-- what contents have that lines 3 to 5 do not refuse: a number of nodes within its limits, and all the nodes
pub record LaidOut (p : List ℕ) : Type 0 where
  pub some : 1 ≤ count_of p
  pub most : count_of p ≤ 4096
  pub nodes : 4 + count_of p ≤ length p

pub layout-passed : (p : List ℕ) → layout_check p ≡ Ok tt → LaidOut p
unfolding layout_check
layout-passed p e =
    let k = count_of p in
    let count = count_check tree_format k 1 4096 2 in
    let size = size_check tree_format (4 + k) p in
    let both = both-passed count size (both-passed (kind_check tree_format p) (count and_then size) e).1 in
    let limits = count-passed tree_format k 1 4096 2 both.0 in
    record { some = limits.0; most = limits.1; nodes = size-passed tree_format (4 + k) p both.1 }

-- the nodes are as many as the header says
pub nodes-length : (k : ℕ) (p : List ℕ) → 4 + k ≤ length p → length (nodes_of k p) ≡ k
nodes-length k p h = length-take-le k (drop 4 p) (simp length-drop (omega arith))

parsed-passed : (c : Check) (k k' : ℕ) → nodes_if c k ≡ Ok k' → (c ≡ Ok tt) × (k ≡ k')
parsed-passed (Ok tt) k k' e = (refl, cc)
parsed-passed (Err r) k k' e = clash (cc)

-- the k nodes of the file s are in the contents and write the tree that is read, which stands at the first of them
pub record TreeRead (sg : Signature) (s : List ℕ) (k : ℕ) : Type 0 where
  pub count : k ≡ count_of (content s)
  pub some : 1 ≤ k
  pub most : k ≤ 4096
  pub size : length (nodes_of k (content s)) ≡ k
  pub passed : nodes_check sg (nodes_of k (content s)) ≡ Ok tt
  pub tree : Writes sg (nodes_of k (content s)) (tree_of sg.branches (nodes_of k (content s)))
  pub stands : Stands sg.branches (nodes_of k (content s)) 0 (tree_of sg.branches (nodes_of k (content s)))

pub tree-read : (sg : Signature) (s : List ℕ) (k : ℕ) → read_tree sg s ≡ Ok k → TreeRead sg s k
unfolding read_tree body_check
tree-read sg s k e =
    let p = content s in
    let read = parsed-passed (file_check tree_format s and_then layout_check p and_then body_check sg p) (count_of p) k e in
    let later = (both-passed (file_check tree_format s) (layout_check p and_then body_check sg p) read.0).1 in
    let both = both-passed (layout_check p) (body_check sg p) later in
    let laid_out = layout-passed p both.0 in
    let passed = (both-passed (filler_check tree_format (4 + count_of p) p) (nodes_check sg (nodes_of (count_of p) p)) both.1).1 in
    rw (← read.1)
    (record {
      count = refl;
      some = laid_out.some;
      most = laid_out.most;
      size = nodes-length (count_of p) p laid_out.nodes;
      passed = passed;
      tree = writes sg (nodes_of (count_of p) p) passed;
      stands = read-stands sg (nodes_of (count_of p) p) passed;
    })

-- a buffer's first k bytes are then the nodes
pub nodes-front : (sg : Signature) (s : List ℕ) (k : ℕ) (buffer : List ℕ) → TreeRead sg s k →
    take k (nodes_after (Ok k) s buffer) ≡ nodes_of k (content s)
nodes-front sg s k buffer h = take_at (nodes_of k (content s)) (drop k buffer) k h.size
