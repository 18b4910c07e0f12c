-- Reading the file of a node list gives the nodes; reading the file of a tree gives the tree.
-- Assumes nothing.
use Rattle.std.proofs.Common.{Ok}
use Prim.Native.Nat.{ℕ, zero, suc, ◌+◌, ◌*◌, ◌/◌, ◌%◌, ◌^◌, ◌<◌, ◌≤◌}
use native.Mathlib.Omega.{arith}
use native.Mathlib.Nat.{div-eq_of_lt, lt_of_lt_of_le}
use mathlib.Core.Path.{◌≡◌, refl, ap, ◌∙◌}
use mathlib.Core.List.{List}
use lib.Pow.{pow_mono}
use lib.ListN.{length, get_or}
use lib.Seq.{take_at}
use borrow.Author.Tests.{le-ltb}
use Rattle.blocks.specs.Blocks.{content}
use Rattle.blocks.specs.FileOf.{blocks_needed, file_of}
use Rattle.blocks.proofs.Written.{file-length, file-content, file-content-at}
use Rattle.model.specs.Trees.{Tree, leaf, node, height, size}
use Rattle.model.specs.Counting.{Over}
use Rattle.model.specs.declared.Signature.{Signature}
use Rattle.refusal.specs.Lines.{kind_check, count_check}
use Rattle.refusal.proofs.Written.{Payload, written-passes}
use Rattle.tree.specs.File.{tree_format, count_of, nodes_of, layout_check, body_check, nodes_if, read_tree}
use Rattle.nodes.proofs.Laws.{nodes-pass}
use Rattle.nodes.specs.Nodes.{nodes_check}
use Rattle.tree.specs.Payload.{payload_of, tree_file}
use Rattle.nodes.specs.Preorder.{preorder, alphabet, Writes}
use Rattle.nodes.proofs.Standing.{size-preorder}
use Rattle.tree_writer.specs.ReadsBack.{ReadsBack}

pub payload-length : (nodes : List ℕ) → length (payload_of nodes) ≡ 4 + length nodes
unfolding payload_of
payload-length nodes = omega arith

-- ---- the file of 1 to 4,096 nodes

module _ (nodes : List ℕ) (least : 1 ≤ length nodes) (most : length nodes ≤ 4096) where
  -- offset 1 is the one zero byte, and it is 0
  one-zero : (i : ℕ) → 2 / 2 ^ i % 2 ≡ 1 → get_or (payload_of nodes) i 0 ≡ 0
  unfolding payload_of
  one-zero zero e = absurd (omega arith)
  one-zero (suc zero) e = refl
  one-zero (suc (suc i)) e =
      let two : 2 ≤ suc (suc i) = omega arith in
      let few : 2 < 2 ^ 2 = omega arith in
      let small : 2 < 2 ^ suc (suc i) = lt_of_lt_of_le few (pow_mono {i = 2} {j = suc (suc i)} two) in
      absurd (omega (arith, e, div-eq_of_lt small))

  payload : Payload tree_format (payload_of nodes)
  payload =
      let n = payload-length nodes in
      record { some = omega (arith, n); most = omega (arith, n); zeros = λ i l e. one-zero i e }

  joined : List ℕ
  joined = content (file_of (payload_of nodes))

  joined_at : (i : ℕ) → get_or joined i 0 ≡ get_or (payload_of nodes) i 0
  unfolding joined
  joined_at i = file-content-at (payload_of nodes) i

  count-is : count_of joined ≡ length nodes
  unfolding payload_of
  count-is = rw (joined_at 2, joined_at 3) (omega arith)

  nodes_are : nodes_of (length nodes) joined ≡ nodes
  unfolding joined payload_of
  nodes_are = rw (file-content (payload_of nodes)) (take_at nodes _ (length nodes) refl)

  kind-passes : kind_check tree_format joined ≡ Ok tt
  unfolding kind_check payload_of
  kind-passes = rw (joined_at 0)

  count-passes : count_check tree_format (length nodes) 1 4096 2 ≡ Ok tt
  unfolding count_check
  count-passes = rw (le-ltb (length nodes) 1 least, le-ltb 4096 (length nodes) most)

  layout-passes : layout_check joined ≡ Ok tt
  unfolding layout_check joined
  layout-passes =
      rw (kind-passes, count-is, count-passes, ← payload-length nodes) (written-passes tree_format (payload_of nodes) payload).size

  body_is : (sg : Signature) → body_check sg joined ≡ nodes_check sg nodes
  unfolding body_check joined
  body_is sg =
      rw (count-is, nodes_are, ← payload-length nodes, (written-passes tree_format (payload_of nodes) payload).filler)

  -- the nodes, if lines 10 to 12 pass them
  pub nodes-read : (sg : Signature) → read_tree sg (file_of (payload_of nodes)) ≡ nodes_if (nodes_check sg nodes) (length nodes)
  unfolding read_tree joined
  nodes-read sg = rw ((written-passes tree_format (payload_of nodes) payload).file, layout-passes, body_is sg, count-is)

  -- and the nodes that are read are these
  pub nodes-back : nodes_of (length nodes) (content (file_of (payload_of nodes))) ≡ nodes
  unfolding joined
  nodes-back = nodes_are

-- ---- the file of a tree

size-some : (t : Tree) → 1 ≤ size t
size-some (leaf σ) = omega arith
size-some (node σ l r) = omega arith

-- the length of the file, by the size of its tree
pub tree-long : (t : Tree) → length (tree_file t) ≡ 512 * blocks_needed (4 + size t)
unfolding tree_file
tree-long t =
    let n : length (payload_of (preorder t)) ≡ 4 + size t = payload-length (preorder t) ∙ ap (λ (k : ℕ). 4 + k) (size-preorder t) in
    file-length (payload_of (preorder t)) ∙ ap (λ (k : ℕ). 512 * blocks_needed k) n

-- every tree over the signature with at most 4,096 nodes and height at most 64 reads back
pub reads_back : (sg : Signature) (t : Tree) → Over (alphabet sg) t → size t ≤ 4096 → height t ≤ 64 → ReadsBack sg t
unfolding tree_file
reads_back sg t over small low =
    let n = size-preorder t in
    let some : 1 ≤ length (preorder t) = omega (arith, n, size-some t) in
    let most : length (preorder t) ≤ 4096 = omega (arith, n) in
    let back : nodes_of (size t) (content (file_of (payload_of (preorder t)))) ≡ preorder t = rw n at (nodes-back (preorder t) some most) in
    let writes : Writes sg (preorder t) t = record { text = refl; over = over; low = low } in
    let pass = (nodes-pass sg (preorder t) t).1 writes in
    record {
      read = nodes-read (preorder t) some most sg ∙ rw pass.0 (ap Ok n);
      writes = rw back writes;
      tree = rw back pass.1;
    }
