-- `blocks::join` meets its contract. The invariant: at the front are the contents of the first b blocks, and the rest is as it was.
-- Assumes nothing.
use Rattle.std.proofs.Common.{◌≡◌, ◌*◌, ◌/◌, length, sym, ◌∙◌, arith, rules}
use Rattle.blocks.specs.Blocks.{contents, content}
use Rattle.blocks.proofs.Laws.{content-length, joined-more}
use Rattle.blocks.proofs.join.Goals as goal

pub loop-b-init : goal.loop-b-init
unfolding contents
loop-b-init c = search rules

pub loop-b-preserved : goal.loop-b-preserved
loop-b-preserved c =
    let copied = c in
    let l = copied.loop-b in
    let a = copied.args in
    (search rules, search rules, joined-more a.file.now a.out.now _ _ l.b (search rules) l.invariant.2 copied.copy_content.ensures)

pub returns : goal.returns
unfolding content
returns c =
    let l = c.loop-b in
    let a = c.args in
    let file = a.file.now in
    let end : l.b ≡ length file / 512 = search rules in
    let all : 508 * l.b ≡ length file / 512 * 508 = omega arith in
    (sym (content-length file), l.invariant.2 ∙ rw (all, end))
