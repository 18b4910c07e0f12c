-- `membership::judge_file` meets its contract: the nodes that are lent on are those of the file, whose tree stands at the first.
-- Assumes nothing.
-- the file reads
-- acceptance and sum are the automaton's
use Rattle.std.proofs.Common.{Ok}
use Prim.Native.Nat.{ℕ, ◌<◌}
use mathlib.Core.Path.{◌≡◌, sym, ap, ◌∙◌}
use mathlib.Core.List.{List}
use native.Mathlib.Omega.{arith}
use lib.ListN.{length, get_or, take, length-take}
use Rattle.model.specs.declared.Place.{Place}
use Rattle.model.specs.declared.Signature.{Signature}
use Rattle.algorithms.specs.Automaton.{Automaton}
use Rattle.algorithms.specs.Overloops.{accepts?}
use Rattle.algorithms.specs.Growth.{growths}
use Rattle.blocks.specs.Blocks.{content}
use Rattle.automaton.specs.declared.Header.{Header}
use Rattle.tree.specs.File.{nodes_of, read_tree}
use Rattle.nodes.specs.Nodes.{tree_of}
use Rattle.tree.proofs.Reading.{TreeRead, tree-read}
use Rattle.overloops.specs.Ready.{Headed}
use Rattle.membership.proofs.Laws.{front-is, judged-refused, judged-nodes, growth-refused, growth-nodes}
use Rattle.nodes.proofs.Signatures.{shaped-over, below_at, written_below}
use Rattle.membership.proofs.judge_file.Goals as goal

pub slice_bounds-nodes-end : goal.slice_bounds-nodes-end
slice_bounds-nodes-end c =
    let h : Header = c.args.header in
    let s : List ℕ = c.args.file.now in
    let k : ℕ = c.in-Ok.k in
    let signature : Signature = record { symbols = h.symbols; branches = h.branches } in
    let read_is : read_tree signature s ≡ Ok k = sym (rw c.from-signature.ensures at c.read_tree.ensures.0) ∙ c.in-Ok.is in
    let read : TreeRead signature s k = tree-read signature s k read_is in
    let nodes_are : take k c.read_tree.new.nodes ≡ nodes_of k (content s) = front-is signature s k _ _ _ c.in-Ok.is c.read_tree.ensures.1 read in
    let e = ap length (nodes_are) ∙ (read).size in omega (arith, length-take (k) c.read_tree.new.nodes, e)

pub slice_bounds-weigh-end : goal.slice_bounds-weigh-end
slice_bounds-weigh-end c =
    let h : Header = c.args.header in
    let s : List ℕ = c.args.file.now in
    let k : ℕ = c.in-Ok.k in
    let signature : Signature = record { symbols = h.symbols; branches = h.branches } in
    let read_is : read_tree signature s ≡ Ok k = sym (rw c.from-signature.ensures at c.read_tree.ensures.0) ∙ c.in-Ok.is in
    let read : TreeRead signature s k = tree-read signature s k read_is in
    let nodes_are : take k c.read_tree.new.nodes ≡ nodes_of k (content s) = front-is signature s k _ _ _ c.in-Ok.is c.read_tree.ensures.1 read in
    rw (nodes_are) (sym (read).size)

pub weigh-weighed-requires : goal.weigh-weighed-requires
weigh-weighed-requires c =
    let h : Header = c.args.header in
    let s : List ℕ = c.args.file.now in
    let k : ℕ = c.in-Ok.k in
    let signature : Signature = record { symbols = h.symbols; branches = h.branches } in
    let read_is : read_tree signature s ≡ Ok k = sym (rw c.from-signature.ensures at c.read_tree.ensures.0) ∙ c.in-Ok.is in
    let read : TreeRead signature s k = tree-read signature s k read_is in
    let nodes_are : take k c.read_tree.new.nodes ≡ nodes_of k (content s) = front-is signature s k _ _ _ c.in-Ok.is c.read_tree.ensures.1 read in
    let limits = c.requires in
    let r = read in
    rw (nodes_are) (omega (arith, r.size, r.some), omega (arith, r.size, r.most), limits, written_below _ _ _ limits.1 r.tree)

pub returns-in-Err : goal.returns-in-Err
returns-in-Err c =
    λ A r.
    let refused = sym (rw c.from-signature.ensures at c.read_tree.ensures.0) ∙ c.in-Err.is in
    (judged-refused A _ _ r _ _ refused, growth-refused A _ _ r _ _ refused)

pub returns-in-Ok : goal.returns-in-Ok
returns-in-Ok c =
    let h : Header = c.args.header in
    let s : List ℕ = c.args.file.now in
    let k : ℕ = c.in-Ok.k in
    let signature : Signature = record { symbols = h.symbols; branches = h.branches } in
    let read_is : read_tree signature s ≡ Ok k = sym (rw c.from-signature.ensures at c.read_tree.ensures.0) ∙ c.in-Ok.is in
    let read : TreeRead signature s k = tree-read signature s k read_is in
    let nodes_are : take k c.read_tree.new.nodes ≡ nodes_of k (content s) = front-is signature s k _ _ _ c.in-Ok.is c.read_tree.ensures.1 read in
    let symbols-below : (i : ℕ) → i < length (nodes_of k (content s)) → get_or (nodes_of k (content s)) i 0 < h.symbols = below_at h.symbols (nodes_of k (content s)) (rw read.tree.text (shaped-over signature _ read.tree.over).1) in
    let weighed-is : (A : Automaton) → Headed A (h) c.args.table.now →
    let told = c in
    let t = tree_of (h).branches (nodes_of (k) (content (s))) in
    (c.weigh-weighed.result.accepted ≡ accepts? A t) × (c.weigh-weighed.result.growth ≡ growths A Place.Root t) = λ A r. let told = c in
    c.weigh-weighed.ensures A r (rw (nodes_are) (symbols-below)) (tree_of (h).branches (nodes_of (k) (content (s))))
    (rw (nodes_are) (read).stands) in
    λ A r.
    let is = weighed-is A r in
    let told = c in
    (ap Ok c.answer_of.ensures ∙ judged-nodes A _ _ r _ _ _ (read_is) is.0, growth-nodes A _ _ r _ _ _ (read_is) is.1)
