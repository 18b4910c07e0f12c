-- `transitions::load` meets its contract: a file that reads has its contents compiled, and a refused one leaves the table.
-- Assumes nothing.
-- the file reads
-- the part of the buffer that is lent on holds the joined contents
use Rattle.std.proofs.Common.{Ok}
use mathlib.Core.Path.{◌≡◌, sym, ◌∙◌}
use lib.ListN.{take}
use Rattle.blocks.specs.Blocks.{content}
use Rattle.automaton.specs.File.{parsed}
use Rattle.automaton.proofs.Passed.{file-read, contents-are, contents-fit}
use Rattle.refusal.proofs.Cases.{handed_on}
use Rattle.transitions.proofs.load.Goals as goal

pub slice_bounds-contents-end : goal.slice_bounds-contents-end
slice_bounds-contents-end c =
    let content-is : take c.content_length-len.result c.read.new.contents ≡ content c.args.file.now = contents-are _ _ _ _ c.in_ok-header.header _ c.in_ok-header.was c.read.ensures.1 c.content_length-len.ensures in
    contents-fit _ _ _ c.content_length-len.ensures (content-is)

pub slice_bounds-compile-end : goal.slice_bounds-compile-end
slice_bounds-compile-end c =
    let content-is : take c.content_length-len.result c.read.new.contents ≡ content c.args.file.now = contents-are _ _ _ _ c.in_ok-header.header _ c.in_ok-header.was c.read.ensures.1 c.content_length-len.ensures in
    rw (content-is) c.content_length-len.ensures

pub compile-requires : goal.compile-requires
compile-requires c =
    let read_is : parsed c.args.file.now ≡ Ok c.in_ok-header.header = sym c.read.ensures.0 ∙ c.in_ok-header.was in
    let content-is : take c.content_length-len.result c.read.new.contents ≡ content c.args.file.now = contents-are _ _ _ _ c.in_ok-header.header _ c.in_ok-header.was c.read.ensures.1 c.content_length-len.ensures in
    (rw (content-is) (file-read _ _ (read_is)).laid_out, c.requires)

pub returns-in_err-header : goal.returns-in_err-header
returns-in_err-header c =
    let e = handed_on _ _ c.from_residual.ensures.1 in
    let told = rw c.in_err-header.was at c.read.ensures in
    (e ∙ told.0, rw e)

pub returns : goal.returns
returns c =
    let content-is : take c.content_length-len.result c.read.new.contents ≡ content c.args.file.now = contents-are _ _ _ _ c.in_ok-header.header _ c.in_ok-header.was c.read.ensures.1 c.content_length-len.ensures in
    let told = rw c.in_ok-header.was at c.read.ensures in
    (told.0, rw (content-is) at c.compile.ensures)
