-- `linking::branch_step` meets its contract.
-- Assumes nothing.
use native.Mathlib.Omega.{arith}
use Rattle.linking.proofs.Steps.{branch-on}
use Rattle.linking.proofs.branch_step.Goals as goal

pub returns : goal.returns
returns c = λ sg n σ s small m e h. branch-on sg n σ _ _ _ _ _ _ _ s _ _ _ h (omega (arith, c.if-stack-gt126.false)) e c.node_of-right.ensures small m c.packed.ensures c.height_over-height.ensures (omega (arith, c.if-height-gt64.false)) c.merge.ensures.1
