-- `bottom_up::steps::branch_step` meets its contract.
-- Assumes nothing.
use Rattle.bottom_up.proofs.Loading.{known, branch-on}
use native.Mathlib.Omega.{arith}
use Rattle.bottom_up.proofs.steps.branch_step.Goals as goal

pub returns-then-stack-gt126 : goal.returns-then-stack-gt126
returns-then-stack-gt126 c = (λ A sg leaves s k small m h. h.cached, tt)

pub returns-then-height-gt64 : goal.returns-then-height-gt64
returns-then-height-gt64 c = (λ A sg leaves s k small m h. h.cached, tt)

pub returns-then-word-eq0 : goal.returns-then-word-eq0
returns-then-word-eq0 c = (λ A sg leaves s k small m h. let n = known _ h (omega (arith, c.if-stack-gt126.false)) in (c.node_word-word.ensures A k h.cached (rw c.id.ensures.0 n.0) (rw c.id-2.ensures.0 n.1)).0.cached, tt)

pub returns : goal.returns
returns c = (λ A sg leaves s k small m h. let n = known _ h (omega (arith, c.if-stack-gt126.false)) in let read = c.node_word-word.ensures A k h.cached (rw c.id.ensures.0 n.0) (rw c.id-2.ensures.0 n.1) in branch-on A sg _ _ _ _ _ _ _ _ leaves _ s _ _ _ _ _ h (omega (arith, c.if-stack-gt126.false)) read.0 c.id.ensures.0 c.id-2.ensures.0 read.1 (omega (arith, c.if-word-eq0.false)) small m c.packed.ensures c.height_over-height.ensures (omega (arith, c.if-height-gt64.false)) c.merge.ensures.1 (omega (arith, c.growth_of.ensures.0)), omega (arith, c.growth_of.ensures.1))
