-- `reporting::print_refused` meets its contract: the text stands at the buffer's front.
-- Assumes nothing.
use native.Mathlib.Omega.{arith}
use mathlib.Core.Path.{sym}
use lib.Seq.{length-take-le}
use Rattle.text.proofs.Laws.{same_size}
use Rattle.reporting.proofs.Laws.{handed-text}
use Rattle.reporting.proofs.print_refused.Goals as goal

pub slice_bounds-print-end : goal.slice_bounds-print-end
slice_bounds-print-end c =
    let k = c.put_refused-end in
    sym (length-take-le k.result k.new.out (omega (arith, k.ensures.1, same_size k.ensures.0)))

pub returns : goal.returns
returns c = handed-text c.put_refused-end.ensures.0 _ c.print.ensures
