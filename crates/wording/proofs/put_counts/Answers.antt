-- `wording::put_counts` meets its contract: one after the other.
-- Assumes nothing.
use native.Mathlib.Omega.{arith}
use Rattle.text.proofs.Laws.{then}
use Rattle.wording.proofs.put_counts.Goals as goal

pub returns : goal.returns
returns c =
    let p = c.put.ensures in
    let h = c.put_field-c.ensures in
    let g = c.put_field-b.ensures in
    let f = c.put_field-a.ensures in
    (then (then (then f.0 g.0) h.0) p, omega (arith, p.end, h.1, g.1, f.1))
