-- `batch::part::put_growth` meets its contract.
-- Assumes nothing.
use native.Mathlib.Omega.{arith}
use mathlib.Core.Path.{sym}
use lib.Seq.{set_out}
use Rattle.batch.proofs.part.put_growth.Goals as goal

pub returns-else-at-growths : goal.returns-else-at-growths
returns-else-at-growths c = sym (set_out c.args.growths.now c.args.at _ (omega (arith, c.if-at-growths.false)))
