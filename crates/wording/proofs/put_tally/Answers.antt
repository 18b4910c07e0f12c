-- `wording::put_tally` meets its contract: one after the other.
-- Assumes nothing.
use native.Mathlib.Omega.{arith}
use Prim.Native.Nat.{ℕ}
use mathlib.Core.Path.{ap}
use Rattle.text.proofs.Laws.{then, told-as}
use Rattle.wording.specs.Words.{percent_is}
use Rattle.wording.specs.ReportLines.{field, tally_line}
use Rattle.wording.proofs.put_tally.Goals as goal

pub returns : goal.returns
unfolding tally_line
returns c =
    let p = c.put.ensures in
    let k = c.put_field-d.ensures in
    let h = c.put_field-c.ensures in
    let g = c.put_field-b.ensures in
    let f = c.put_field-a.ensures in
    let e = c.percent.ensures.equals in
    (then (then (then (then f.0 g.0) h.0) (told-as k.0 (ap (λ (n : ℕ). field percent_is n) e))) p, omega (arith, p.end, k.1, h.1, g.1, f.1))
