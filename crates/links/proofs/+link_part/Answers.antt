-- `links::link_part` meets its contract: the links of the tree that stands at the node are stored.
-- Assumes nothing.
use Rattle.std.proofs.Common.{arith, refl, sym, ◌∙◌, length-set}
use Rattle.nodes.proofs.Standing.{leaf-here, node-here}
use Rattle.links.specs.Links.{parents_from, rights_from}
use Rattle.links.proofs.Storing.{parents-stored, rights-stored}
use Rattle.links.proofs.+link_part.Goals as goal

pub returns-then-not-is_branch : goal.returns-then-not-is_branch
unfolding parents_from rights_from
returns-then-not-is_branch t c = (
  omega arith,
  omega arith,
  λ u h. rw (leaf-here (sym c.is_branch.ensures ∙ c.if-not-is_branch.true) h) (refl, refl, refl),
)

pub link_part-right-requires : goal.link_part-right-requires
link_part-right-requires t c = (omega arith, (omega arith, omega arith, simp length-set (omega arith), omega arith))

pub link_part-requires : goal.link_part-requires
link_part-requires t c =
    let x = c.link_part-right.auto.parents in
    let y = c.link_part-right.auto.rights in
    (omega arith, (omega arith, omega arith, rw (x, length-set) (omega arith), rw (length-set, y) (omega arith)))

pub returns : goal.returns
returns t c = (
  omega arith,
  omega arith,
  λ u h.
      let a = c.args in
      let parts = node-here (sym c.is_branch.ensures ∙ c.if-not-is_branch.false) h in
      let left = c.link_part-right.ensures.2 parts.l parts.left in
      let right = c.link_part.ensures.2 parts.r (rw left.0 parts.right) in
      rw parts.tree (
        omega (arith, left.0, right.0),
        parents-stored a.at parts.l parts.r a.parent _ a.parents.now _ _ left.1 (rw left.0 at right.1),
        rights-stored a.at parts.l parts.r _ a.rights.now _ _ left.2 (rw left.0 at right.2),
      ),
)
