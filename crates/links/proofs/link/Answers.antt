-- `links::link` meets its contract: the whole tree is the part at node 0.
-- Assumes nothing.
use native.Mathlib.Omega.{arith}
use mathlib.Core.Path.{◌∙◌}
use Rattle.model.specs.Trees.{size}
use Rattle.links.specs.Links.{parents_of, rights_of}
use Rattle.blocks.proofs.Stores.{sets-front}
use Rattle.links.proofs.Storing.{parents-length, rights-length}
use Rattle.links.proofs.link.Goals as goal

pub returns : goal.returns
returns c =
    λ t h.
    let a = c.args in
    let part = c.link_part.ensures in
    let e = part.2 t h in (
      e.1 ∙ sets-front (parents_of t) a.parents.now (size t) (parents-length 0 0 t) (omega (arith, e.0, part.1)),
      e.2 ∙ sets-front (rights_of t) a.rights.now (size t) (rights-length 0 t) (omega (arith, e.0, part.1)),
    )
