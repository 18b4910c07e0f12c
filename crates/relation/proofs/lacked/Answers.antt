-- `relation::lacked` meets its contract. Assumes nothing.
use native.Mathlib.Omega.{arith}
use Rattle.relation.proofs.Growing.{or-more}
use Rattle.relation.proofs.lacked.Goals as goal

pub overflow_sub-result : goal.overflow_sub-result
overflow_sub-result c = omega (arith, or-more c.args.row c.args.other)
