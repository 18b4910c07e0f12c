-- `text::put_field` meets its contract: one after the other.
-- Assumes nothing.
use native.Mathlib.Omega.{arith}
use Rattle.text.proofs.Laws.{then}
use Rattle.text.proofs.put_field.Goals as goal

pub returns : goal.returns
returns c =
    let d = c.put_decimal in
    let p = c.put-end in
    (then p.ensures d.ensures.0, omega (arith, p.ensures.end, d.ensures.1))
