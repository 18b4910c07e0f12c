-- `blocks::content_length` meets its contract.
-- Assumes nothing.
use Rattle.std.proofs.Common.{sym}
use Rattle.blocks.proofs.Laws.{content-length}
use Rattle.blocks.proofs.content_length.Goals as goal

pub returns : goal.returns
returns c = sym (content-length _)
