-- `linking::leaf_step` meets its contract.
-- Assumes nothing.
use Rattle.linking.proofs.Steps.{leaf-on}
use Rattle.linking.proofs.leaf_step.Goals as goal

pub returns : goal.returns
returns c = λ sg n σ parents s small m e h. leaf-on sg n σ _ _ parents _ _ s _ _ _ h e small m c.packed.ensures c.push.ensures.1
