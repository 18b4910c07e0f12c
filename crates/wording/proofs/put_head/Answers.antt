-- `wording::put_head` meets its contract: the three lines, one after the other.
-- Assumes nothing.
use native.Mathlib.Omega.{arith}
use Rattle.text.proofs.Laws.{then}
use Rattle.wording.proofs.put_head.Goals as goal

pub returns : goal.returns
returns c =
    let h = c.put_survey.ensures in
    let g = c.put_quick-b.ensures in
    let f = c.put_automaton-a.ensures in
    (then (then f.0 g.0) h.0, omega (arith, h.1, g.1, f.1))
