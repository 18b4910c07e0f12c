-- `reporting::print` meets its contract: the text is handed on.
-- Assumes nothing.
use Rattle.reporting.specs.Trace.{was_handed}
use Rattle.reporting.proofs.print.Goals as goal

pub returns : goal.returns
returns c = was_handed _ _
