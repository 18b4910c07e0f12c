-- `passes::merge` meets its contract.
-- Assumes nothing.
use Rattle.passes.proofs.Stacks.{merged}
use mathlib.Core.Path.{refl}
use native.Mathlib.Omega.{arith}
use Rattle.passes.proofs.merge.Goals as goal

pub returns : goal.returns
returns c = (refl, λ x y ws h. merged _ _ _ _ _ x y ws (omega arith) h)
