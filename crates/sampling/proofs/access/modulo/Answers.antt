-- `crate::access::modulo` meets its contract: a remainder is below the divisor.
-- Assumes nothing.
use native.Mathlib.Omega.{arith}
use native.Mathlib.Nat.{mod-lt}
use Rattle.sampling.proofs.access.modulo.Goals as goal

pub returns-else-n-eq0 : goal.returns-else-n-eq0
returns-else-n-eq0 c = omega (arith, mod-lt c.args.a {m = c.args.n} (omega arith))
