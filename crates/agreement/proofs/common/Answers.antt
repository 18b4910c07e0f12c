-- `agreement::common` meets its contract: whole entries of the bytes in common.
-- Assumes nothing.
use native.Mathlib.Omega.{arith}
use mathlib.Core.Path.{refl, sym}
use lib.Seq.{length-take-le}
use Rattle.agreement.proofs.Agreeing.{common-within, common-longest}
use Rattle.agreement.proofs.common.Goals as goal

pub slice_bounds-result-end : goal.slice_bounds-result-end
slice_bounds-result-end c =
    let given = c.args in
    let most = common-within given.first.now given.second.now in
    sym (length-take-le _ _ (omega (arith, c.common_bytes.ensures, most.0, most.1)))

pub returns : goal.returns
returns c = record { itself = refl; equals = rw c.common_bytes.ensures refl; longest = common-longest _ _ }
