-- `tree::file::read_tree` meets its contract: what is lent on is the joined contents, so each check and what is copied are the definition's.
-- Assumes nothing.
-- the file, after lines 1 and 2
-- lines 1 and 2 have passed
-- the joined contents, which the part of the buffer that is lent on holds
-- every check has passed
use Rattle.std.proofs.Common.{Ok}
use Prim.Native.Nat.{ℕ, ◌+◌, ◌-◌, ◌≤◌}
use mathlib.Core.Path.{◌≡◌, sym, ap, ◌∙◌}
use mathlib.Core.List.{List}
use native.Mathlib.Omega.{arith}
use lib.ListN.{length, take, drop, length-append}
use Rattle.blocks.specs.Blocks.{content}
use Rattle.blocks.proofs.Laws.{content-length, joined_is}
use Rattle.refusal.specs.Lines.{file_check}
use Rattle.refusal.proofs.Passed.{file-passed}
use Rattle.tree.specs.File.{tree_format, count_of, nodes_of, layout_check, body_check, read_tree}
use Rattle.tree.proofs.Reading.{layout-passed, nodes-length}
use Rattle.refusal.proofs.Cases.{handed_on}
use Rattle.tree.proofs.file.read_tree.Goals as goal

pub returns-in_err-file_check : goal.returns-in_err-file_check
unfolding read_tree
returns-in_err-file_check c = let e = handed_on _ _ c.from_residual.ensures.1 in (rw (e, sym c.file_check.ensures ∙ c.in_err-file_check.was), rw e)

pub join-len-requires : goal.join-len-requires
unfolding read_tree
join-len-requires c =
    let file_at : List ℕ = c.args.file.now in
    let file-is : file_check tree_format (file_at) ≡ Ok tt = sym c.file_check.ensures ∙ c.in_ok-file_check.was in
    let size = file-passed tree_format _ (file-is) in omega arith

pub slice_bounds-buffer-end : goal.slice_bounds-buffer-end
unfolding read_tree
slice_bounds-buffer-end c = let j = c.join-len in rw j.ensures.1 (simp length-append (omega (arith, j.ensures.0)))

pub slice_bounds-content-end : goal.slice_bounds-content-end
unfolding read_tree
slice_bounds-content-end c =
    let file_at : List ℕ = c.args.file.now in
    let content_at : List ℕ = content (file_at) in
    let content-is : take c.join-len.result c.join-len.new.out ≡ content_at = joined_is _ _ _ _ c.join-len.ensures.0 c.join-len.ensures.1 in
    rw (content-is) c.join-len.ensures.0

pub layout_check-requires : goal.layout_check-requires
unfolding read_tree
layout_check-requires c =
    let file_at : List ℕ = c.args.file.now in
    let file-is : file_check tree_format (file_at) ≡ Ok tt = sym c.file_check.ensures ∙ c.in_ok-file_check.was in
    let content_at : List ℕ = content (file_at) in
    let content-is : take c.join-len.result c.join-len.new.out ≡ content_at = joined_is _ _ _ _ c.join-len.ensures.0 c.join-len.ensures.1 in
    let content-size : 508 ≤ length (content_at) = let s = file_at in
    let size = file-passed tree_format s (file-is) in
    omega (arith, content-length s) in
    let size = content-size in rw (content-is) (omega arith)

pub returns-in_err-layout_check : goal.returns-in_err-layout_check
unfolding read_tree
returns-in_err-layout_check c =
    let file_at : List ℕ = c.args.file.now in
    let file-is : file_check tree_format (file_at) ≡ Ok tt = sym c.file_check.ensures ∙ c.in_ok-file_check.was in
    let content_at : List ℕ = content (file_at) in
    let content-is : take c.join-len.result c.join-len.new.out ≡ content_at = joined_is _ _ _ _ c.join-len.ensures.0 c.join-len.ensures.1 in
    let layout_is : layout_check (content_at) ≡ c.layout_check.result = sym (c.layout_check.ensures ∙ ap layout_check (content-is)) in
    let e = handed_on _ _ c.from_residual-in_err-layout_check.ensures.1 in (rw (e, file-is, layout_is ∙ c.in_err-layout_check.was), rw e)

pub body_check-requires : goal.body_check-requires
unfolding read_tree
body_check-requires c =
    let file_at : List ℕ = c.args.file.now in
    let content_at : List ℕ = content (file_at) in
    let content-is : take c.join-len.result c.join-len.new.out ≡ content_at = joined_is _ _ _ _ c.join-len.ensures.0 c.join-len.ensures.1 in
    let layout_is : layout_check (content_at) ≡ c.layout_check.result = sym (c.layout_check.ensures ∙ ap layout_check (content-is)) in
    let layout-passes : layout_check (content_at) ≡ Ok tt = layout_is ∙ c.in_ok-layout_check.was in
    rw (content-is) (layout-passed _ (layout-passes)).nodes

pub returns-in_err-body_check : goal.returns-in_err-body_check
unfolding read_tree
returns-in_err-body_check c =
    let file_at : List ℕ = c.args.file.now in
    let file-is : file_check tree_format (file_at) ≡ Ok tt = sym c.file_check.ensures ∙ c.in_ok-file_check.was in
    let content_at : List ℕ = content (file_at) in
    let content-is : take c.join-len.result c.join-len.new.out ≡ content_at = joined_is _ _ _ _ c.join-len.ensures.0 c.join-len.ensures.1 in
    let layout_is : layout_check (content_at) ≡ c.layout_check.result = sym (c.layout_check.ensures ∙ ap layout_check (content-is)) in
    let layout-passes : layout_check (content_at) ≡ Ok tt = layout_is ∙ c.in_ok-layout_check.was in
    let body_is : body_check c.args.signature (content_at) ≡ c.body_check.result = sym (c.body_check.ensures ∙ ap (body_check _) (content-is)) in
    let e = handed_on _ _ c.from_residual-in_err-body_check.ensures.1 in (rw (e, file-is, layout-passes, body_is ∙ c.in_err-body_check.was), rw e)

pub count-k-requires : goal.count-k-requires
unfolding read_tree
count-k-requires c =
    let file_at : List ℕ = c.args.file.now in
    let file-is : file_check tree_format (file_at) ≡ Ok tt = sym c.file_check.ensures ∙ c.in_ok-file_check.was in
    let content_at : List ℕ = content (file_at) in
    let content-is : take c.join-len.result c.join-len.new.out ≡ content_at = joined_is _ _ _ _ c.join-len.ensures.0 c.join-len.ensures.1 in
    let content-size : 508 ≤ length (content_at) = let s = file_at in
    let size = file-passed tree_format s (file-is) in
    omega (arith, content-length s) in
    let size = content-size in rw (content-is) (omega arith)

pub slice_bounds-copy-end : goal.slice_bounds-copy-end
unfolding read_tree
slice_bounds-copy-end c =
    let file_at : List ℕ = c.args.file.now in
    let content_at : List ℕ = content (file_at) in
    let content-is : take c.join-len.result c.join-len.new.out ≡ content_at = joined_is _ _ _ _ c.join-len.ensures.0 c.join-len.ensures.1 in
    let layout_is : layout_check (content_at) ≡ c.layout_check.result = sym (c.layout_check.ensures ∙ ap layout_check (content-is)) in
    let layout-passes : layout_check (content_at) ≡ Ok tt = layout_is ∙ c.in_ok-layout_check.was in
    let count-is : c.count-k.result ≡ count_of (content_at) = c.count-k.ensures.0 ∙ ap count_of (content-is) in
    let laid_out : (c.count-k.result ≤ 4096) × (4 + c.count-k.result ≤ length (content_at)) = let l = layout-passed _ (layout-passes) in
    rw count-is (l.most, l.nodes) in
    rw (content-is) (laid_out).1

pub copy-requires : goal.copy-requires
unfolding read_tree
copy-requires c =
    let file_at : List ℕ = c.args.file.now in
    let content_at : List ℕ = content (file_at) in
    let content-is : take c.join-len.result c.join-len.new.out ≡ content_at = joined_is _ _ _ _ c.join-len.ensures.0 c.join-len.ensures.1 in
    let layout_is : layout_check (content_at) ≡ c.layout_check.result = sym (c.layout_check.ensures ∙ ap layout_check (content-is)) in
    let layout-passes : layout_check (content_at) ≡ Ok tt = layout_is ∙ c.in_ok-layout_check.was in
    let count-is : c.count-k.result ≡ count_of (content_at) = c.count-k.ensures.0 ∙ ap count_of (content-is) in
    let laid_out : (c.count-k.result ≤ 4096) × (4 + c.count-k.result ≤ length (content_at)) = let l = layout-passed _ (layout-passes) in
    rw count-is (l.most, l.nodes) in
    let nodes_are : take (4 + c.count-k.result - 4) (drop 4 (take c.join-len.result c.join-len.new.out))
    ≡ nodes_of c.count-k.result (content_at) = let same : 4 + c.count-k.result - 4 ≡ c.count-k.result = omega arith in
    rw (same, content-is) in
    let nodes-size : length (nodes_of c.count-k.result (content_at)) ≡ c.count-k.result = nodes-length _ (content_at) laid_out.1 in
    rw (nodes_are, nodes-size, c.copy-arg-2-1.given.0.1) (laid_out).0

pub returns : goal.returns
unfolding read_tree
returns c =
    let file_at : List ℕ = c.args.file.now in
    let file-is : file_check tree_format (file_at) ≡ Ok tt = sym c.file_check.ensures ∙ c.in_ok-file_check.was in
    let content_at : List ℕ = content (file_at) in
    let content-is : take c.join-len.result c.join-len.new.out ≡ content_at = joined_is _ _ _ _ c.join-len.ensures.0 c.join-len.ensures.1 in
    let layout_is : layout_check (content_at) ≡ c.layout_check.result = sym (c.layout_check.ensures ∙ ap layout_check (content-is)) in
    let layout-passes : layout_check (content_at) ≡ Ok tt = layout_is ∙ c.in_ok-layout_check.was in
    let body_is : body_check c.args.signature (content_at) ≡ c.body_check.result = sym (c.body_check.ensures ∙ ap (body_check _) (content-is)) in
    let count-is : c.count-k.result ≡ count_of (content_at) = c.count-k.ensures.0 ∙ ap count_of (content-is) in
    let laid_out : (c.count-k.result ≤ 4096) × (4 + c.count-k.result ≤ length (content_at)) = let l = layout-passed _ (layout-passes) in
    rw count-is (l.most, l.nodes) in
    let nodes_are : take (4 + c.count-k.result - 4) (drop 4 (take c.join-len.result c.join-len.new.out))
    ≡ nodes_of c.count-k.result (content_at) = let same : 4 + c.count-k.result - 4 ≡ c.count-k.result = omega arith in
    rw (same, content-is) in
    let nodes-size : length (nodes_of c.count-k.result (content_at)) ≡ c.count-k.result = nodes-length _ (content_at) laid_out.1 in
    let n = c in
    let body = body_is ∙ n.in_ok-body_check.was in (
      rw (file-is, layout-passes, body) (ap Ok (count-is)),
      rw (c.copy.ensures, nodes_are, nodes-size),
    )
