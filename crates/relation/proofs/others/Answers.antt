-- `relation::others` meets its contract: `1 << p` is 2 ^ p, and an `or` is no less than what goes into it.
-- Assumes nothing.
use mathlib.Core.Path.{ap}
use Prim.Native.Nat.{ℕ, ◌*◌, ◌%◌, ◌^◌, ◌-◌}
use native.Mathlib.Omega.{arith}
use lib.Bits.{bit_or, or_add_and, and_le_l}
use Rattle.relation.proofs.BitLaws.{one_shl}
use Rattle.relation.proofs.others.Goals as goal

pub overflow_sub-result : goal.overflow_sub-result
overflow_sub-result c = let one = (1 * 2 ^ c.args.p) % 2 ^ 32 in omega (arith, or_add_and c.args.row one, and_le_l c.args.row one)

pub returns : goal.returns
returns c = ap (λ (x : ℕ). bit_or c.args.row x - x) (one_shl c.args.p (omega arith))
