-- `tree::file::unpack_to` meets its contract: what is lent on is the joined contents.
-- Assumes nothing.
-- lines 1 and 2 have passed
-- the part of the buffer that is lent on holds the joined contents
use Rattle.std.proofs.Common.{Ok}
use Prim.Native.Nat.{◌≤◌}
use mathlib.Core.Path.{◌≡◌, sym, ◌∙◌, subst}
use native.Mathlib.Omega.{arith}
use lib.ListN.{length, take, length-append}
use Rattle.blocks.specs.Blocks.{content}
use Rattle.blocks.proofs.Laws.{content-length, joined_is}
use Rattle.refusal.specs.Lines.{file_check}
use Rattle.refusal.proofs.Cases.{kept}
use Rattle.refusal.proofs.Passed.{file-passed}
use Rattle.tree.specs.File.{tree_format}
use Rattle.tree.specs.Unpacked.{Clear}
use Rattle.tree.proofs.Unpacking.{unpacked}
use Rattle.tree.proofs.file.unpack_to.Goals as goal

pub join-len-requires : goal.join-len-requires
join-len-requires c =
    let file-is : file_check tree_format c.args.file.now ≡ Ok tt = sym c.file_check.ensures ∙ kept _ c.in_ok-ok.ensures.value in
    let size = file-passed tree_format _ (file-is) in omega arith

pub slice_bounds-clear_count-end : goal.slice_bounds-clear_count-end
slice_bounds-clear_count-end c = let j = c.join-len in rw j.ensures.1 (simp length-append (omega (arith, j.ensures.0)))

pub slice_bounds-clear_count-end-2 : goal.slice_bounds-clear_count-end-2
slice_bounds-clear_count-end-2 c =
    let content-is : take c.join-len.result c.join-len.new.out
    ≡ content c.args.file.now = joined_is _ _ _ _ c.join-len.ensures.0 c.join-len.ensures.1 in
    rw (content-is) c.join-len.ensures.0

pub clear_count-requires : goal.clear_count-requires
clear_count-requires c =
    let file-is : file_check tree_format c.args.file.now ≡ Ok tt = sym c.file_check.ensures ∙ kept _ c.in_ok-ok.ensures.value in
    let content-is : take c.join-len.result c.join-len.new.out
    ≡ content c.args.file.now = joined_is _ _ _ _ c.join-len.ensures.0 c.join-len.ensures.1 in
    let content-size : 4 ≤ length (content c.args.file.now) = let s = c.args.file.now in
    let size = file-passed tree_format s (file-is) in
    omega (arith, content-length s) in
    rw (content-is) (content-size)

pub returns : goal.returns
returns c k found =
    let file-is : file_check tree_format c.args.file.now ≡ Ok tt = sym c.file_check.ensures ∙ kept _ c.in_ok-ok.ensures.value in
    let content-is : take c.join-len.result c.join-len.new.out
    ≡ content c.args.file.now = joined_is _ _ _ _ c.join-len.ensures.0 c.join-len.ensures.1 in
    let j = c in
    unpacked _ _ _ _ (file-is) (subst (λ p. Clear p k) (content-is) (c.clear_count.ensures k found))
    j.join-len.ensures.1
