-- `bottom_up::steps::leaf_step` meets its contract.
-- Assumes nothing.
use Rattle.bottom_up.proofs.Loading.{leaf-on}
use native.Mathlib.Omega.{arith}
use Rattle.bottom_up.proofs.steps.leaf_step.Goals as goal

pub returns-then-stack-eq0 : goal.returns-then-stack-eq0
returns-then-stack-eq0 c = (λ A sg s k small m h. h.cached, tt)

pub returns-then-stack-gt128 : goal.returns-then-stack-gt128
returns-then-stack-gt128 c = (λ A sg s k small m h. h.cached, tt)

pub returns-then-word-eq0 : goal.returns-then-word-eq0
returns-then-word-eq0 c = (λ A sg s k small m h. (c.leaf_met-word.ensures A k h.cached h.leafed).0.cached, tt)

pub returns : goal.returns
returns c = (λ A sg s k small m h. let read = c.leaf_met-word.ensures A k h.cached h.leafed in leaf-on A sg _ _ _ _ _ _ _ s _ _ _ _ _ k.proper h read.0 read.1 read.2 (omega (arith, c.if-word-eq0.false)) small m c.packed.ensures c.push.ensures.1, omega arith)
