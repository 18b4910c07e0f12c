-- `interchange::unlike` meets its contract: where the rows differ, the set has p.
-- Assumes nothing.
use mathlib.Core.Path.{ap}
use Prim.Native.Nat.{ℕ}
use native.Mathlib.Omega.{arith}
use Rattle.relation.specs.Bit.{bit}
use Rattle.relation.proofs.BitLaws.{bit-pow, one_shl}
use borrow.Author.Rules.{rules}
use Rattle.interchange.proofs.unlike.Goals as goal

pub returns-else-x-y : goal.returns-else-x-y
returns-else-x-y c = λ e. absurd (omega (arith, e, ap (λ (x : ℕ). bit x c.args.p) (one_shl c.args.p (search rules)), bit-pow c.args.p))
