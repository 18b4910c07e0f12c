-- `markup::refused_tree` meets its contract.
-- Assumes nothing.
use Rattle.std.proofs.Common.{Ok}
use mathlib.Core.Path.{◌≡◌, sym, ◌∙◌}
use native.Mathlib.Omega.{arith}
use Rattle.markup.specs.Checks.{tag_check}
use Rattle.markup.proofs.Checked.{other-tags, tags-passed, small-tree}
use Rattle.markup.proofs.refused_tree.Goals as goal

pub returns-in-Some : goal.returns-in-Some
returns-in-Some c =
    rw (other-tags c.args.signature c.args.text.now c.requires.signed.2 _ (sym c.first_bad_tag.ensures ∙ c.in-Some.is)) c.refused.ensures

pub returns : goal.returns
returns c =
    let q = c.requires in
    let tags : tag_check c.args.signature c.args.text.now ≡ Ok tt =
    other-tags c.args.signature c.args.text.now q.signed.2 _ (sym c.first_bad_tag.ensures ∙ c.in_default.is) in
    sym (small-tree _ _ q.signed.1 tags (omega (arith, q.count_value.0)) ∙ sym (tags-passed _ _ q.signed.0 q.signed.1 q.signed.2 tags) ∙ q.count_value.1)
