-- `reporting::print_head` meets its contract: the text stands at the buffer's front.
-- Assumes nothing.
use Rattle.reporting.proofs.Laws.{handed-text}
use Rattle.reporting.proofs.print_head.Goals as goal

pub returns : goal.returns
returns c p ready = handed-text (c.put_read-end.ensures.0 p ready) _ c.print.ensures
