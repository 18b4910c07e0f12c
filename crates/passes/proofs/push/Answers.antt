-- `passes::push` meets its contract.
-- Assumes nothing.
use Rattle.passes.proofs.Stacks.{pushed}
use native.Mathlib.Omega.{arith}
use Rattle.passes.proofs.push.Goals as goal

pub returns : goal.returns
returns c = (omega arith, λ ws h. pushed _ _ _ _ _ ws (omega arith) h)
