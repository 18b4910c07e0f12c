-- `relation::Relation::join_follow` meets its contract: the loop replaces each row by that of the join with the composition. Assumes nothing.
use borrow.Author.Rules.{rules}
use mathlib.Core.Path.{◌≡◌, refl, sym, ap, ◌∙◌}
use native.Mathlib.Omega.{arith}
use lib.ListN.{length, get_or, length-map}
use Rattle.relation.specs.Rows.{image_of, joined, composed}
use Rattle.relation.proofs.Pairs.{length-joined, image-zero}
use Rattle.relation.proofs.Over.{over_done}
use Rattle.relation.proofs.Members.{image-cut}
use Rattle.relation.proofs.Turns.{join-follow-turn, join-follow-stay}
use Rattle.relation.proofs.Relation.join_follow.Goals as goal
use Rattle.relation.proofs.Relation.join_follow.Goals.{then-to-ne0, else-to-ne0}

pub loop-p-init : goal.loop-p-init
loop-p-init c = (search rules, refl)

pub loop-p-preserved : goal.loop-p-preserved
loop-p-preserved c =
    let start = c in
    let at = c.loop-p in
    let a = start.args.self.rows in
    let s = start.args.steps.now in
    let b = start.args.part.now in
    let la : length a ≡ 24 = search rules in
    let same : length a ≡ length s = la ∙ sym start.requires.0 in
    let cut = image-cut b (get_or s at.p 0) start.requires.1 in
    elim c.if-to-ne0.branch [
      | then-to-ne0 w ↦ (
        search rules,
        rw w.self-is (join-follow-turn a s b at.self.rows at.p w.image_in.result same (omega arith) at.invariant.1 (w.image_in.ensures ∙ cut)),
      )
      | else-to-ne0 w ↦ (
        search rules,
        rw w.self-is (join-follow-stay a s b at.self.rows at.p same (omega arith) at.invariant.1
            (sym cut ∙ ap (image_of b) (omega arith) ∙ image-zero b)),
      )
    ]

pub returns : goal.returns
returns c =
    let start = c in
    let at = c.loop-p in
    let a = start.args.self.rows in
    let s = start.args.steps.now in
    let b = start.args.part.now in
    let la : length a ≡ 24 = search rules in
    let same : length a ≡ length (composed s b) = la ∙ sym (length-map s (image_of b) ∙ start.requires.0) in
    over_done (joined a (composed s b)) a at.self.rows at.p (length-joined a (composed s b) same) (omega arith) at.invariant.1
