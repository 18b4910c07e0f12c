-- `wording::put_verdict` meets its contract: one after the other.
-- Assumes nothing.
use native.Mathlib.Omega.{arith}
use Rattle.text.proofs.Laws.{then}
use Rattle.wording.specs.ReportLines.{verdict_line}
use Rattle.wording.proofs.put_verdict.Goals as goal

pub returns : goal.returns
unfolding verdict_line
returns c =
    let p = c.put.ensures in
    let h = c.put_field-c.ensures in
    let g = c.put_field-b.ensures in
    let f = c.put-a.ensures in
    (then (then (then f g.0) h.0) p, omega (arith, p.end, h.1, g.1, f.end))
