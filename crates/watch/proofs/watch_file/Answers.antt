-- `watch::watch_file` meets its contract: the nodes that are lent on are those of the file.
-- Assumes nothing.
-- the file reads
use Rattle.std.proofs.Common.{Ok}
use Prim.Native.Nat.{ℕ}
use native.Mathlib.Omega.{arith}
use mathlib.Core.Path.{◌≡◌, sym, ap, ◌∙◌}
use mathlib.Core.List.{List}
use lib.ListN.{length, take, length-take}
use Rattle.refusal.proofs.Cases.{handed_on}
use Rattle.model.specs.declared.Signature.{Signature}
use Rattle.blocks.specs.Blocks.{content}
use Rattle.automaton.specs.declared.Header.{Header}
use Rattle.tree.specs.File.{nodes_of, read_tree}
use Rattle.tree.proofs.Reading.{TreeRead, tree-read}
use Rattle.membership.proofs.Laws.{front-is}
use Rattle.watch.proofs.Telling.{file-refused, file-watched, held}
use Rattle.watch.proofs.watch_file.Goals as goal

pub slice_bounds-nodes-end : goal.slice_bounds-nodes-end
slice_bounds-nodes-end c =
    let h : Header = c.args.header in
    let s : List ℕ = c.args.file.now in
    let k : ℕ = c.in_ok-k.k in
    let signature : Signature = record { symbols = h.symbols; branches = h.branches } in
    let read_is : read_tree signature s ≡ Ok k = sym (rw c.from-signature.ensures at c.read_tree.ensures.0) ∙ c.in_ok-k.was in
    let read : TreeRead signature s k = tree-read signature s k read_is in
    let nodes_are : take k c.read_tree.new.nodes ≡ nodes_of k (content s) = front-is signature s k _ _ _ c.in_ok-k.was c.read_tree.ensures.1 read in
    let e = ap length (nodes_are) ∙ (read).size in
    omega (arith, length-take (k) c.read_tree.new.nodes, e)

pub slice_bounds-watch_nodes-end : goal.slice_bounds-watch_nodes-end
slice_bounds-watch_nodes-end c =
    let h : Header = c.args.header in
    let s : List ℕ = c.args.file.now in
    let k : ℕ = c.in_ok-k.k in
    let signature : Signature = record { symbols = h.symbols; branches = h.branches } in
    let read_is : read_tree signature s ≡ Ok k = sym (rw c.from-signature.ensures at c.read_tree.ensures.0) ∙ c.in_ok-k.was in
    let read : TreeRead signature s k = tree-read signature s k read_is in
    let nodes_are : take k c.read_tree.new.nodes ≡ nodes_of k (content s) = front-is signature s k _ _ _ c.in_ok-k.was c.read_tree.ensures.1 read in
    rw (nodes_are) (sym (read).size)

pub watch_nodes-requires : goal.watch_nodes-requires
watch_nodes-requires c =
    let h : Header = c.args.header in
    let s : List ℕ = c.args.file.now in
    let k : ℕ = c.in_ok-k.k in
    let signature : Signature = record { symbols = h.symbols; branches = h.branches } in
    let read_is : read_tree signature s ≡ Ok k = sym (rw c.from-signature.ensures at c.read_tree.ensures.0) ∙ c.in_ok-k.was in
    let read : TreeRead signature s k = tree-read signature s k read_is in
    let nodes_are : take k c.read_tree.new.nodes ≡ nodes_of k (content s) = front-is signature s k _ _ _ c.in_ok-k.was c.read_tree.ensures.1 read in
    let pre = c.requires in
    rw (nodes_are) (held _ _ _ pre.1.1 (s) (k) pre.0 (read))

pub returns-in_err-k : goal.returns-in_err-k
returns-in_err-k c =
    λ A headed.
    rw (handed_on _ _ c.from_residual.ensures.1) (file-refused A _ _ headed _ _ _ _ (sym (rw c.from-signature.ensures at c.read_tree.ensures.0) ∙ c.in_err-k.was))

pub returns : goal.returns
returns c =
    let h : Header = c.args.header in
    let s : List ℕ = c.args.file.now in
    let k : ℕ = c.in_ok-k.k in
    let signature : Signature = record { symbols = h.symbols; branches = h.branches } in
    let read_is : read_tree signature s ≡ Ok k = sym (rw c.from-signature.ensures at c.read_tree.ensures.0) ∙ c.in_ok-k.was in
    let read : TreeRead signature s k = tree-read signature s k read_is in
    let nodes_are : take k c.read_tree.new.nodes ≡ nodes_of k (content s) = front-is signature s k _ _ _ c.in_ok-k.was c.read_tree.ensures.1 read in
    λ A headed.
    file-watched A _ _ headed _ _ _ _ (read_is) _
    ((rw (nodes_are) at c.watch_nodes.ensures) (held A _ _ headed (s) (k) c.requires.0 (read)))
