-- `wording::put_refused` meets its contract: one after the other.
-- Assumes nothing.
use native.Mathlib.Omega.{arith}
use Rattle.text.proofs.Laws.{then}
use Rattle.wording.specs.ReportLines.{refused_line}
use Rattle.wording.proofs.put_refused.Goals as goal

pub returns : goal.returns
unfolding refused_line
returns c =
    let p = c.put.ensures in
    let g = c.put_field-b.ensures in
    let f = c.put_field-a.ensures in
    (then (then f.0 g.0) p, omega (arith, p.end, g.1, f.1))
