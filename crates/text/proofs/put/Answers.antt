-- `text::put` meets its contract: a copy to the front of what stands from the place on.
-- Assumes nothing.
use Rattle.text.proofs.Laws.{copied}
use Rattle.text.proofs.put.Goals as goal

pub returns : goal.returns
returns c =
    let k = c.args in
    copied k.out.now _ k.text.now k.at _ c.requires c.copy-n.ensures.0 c.copy-n.ensures.1
