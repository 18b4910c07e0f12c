-- `batch::file_blocks` meets its contract: the test picks the case.
-- Assumes nothing.
use borrow.Author.Rules.{rules}
use native.Mathlib.Omega.{arith}
use Rattle.batch.proofs.Laws.{blocks-short, blocks-many, blocks-few}
use Rattle.batch.proofs.file_blocks.Goals as goal

pub returns-then-first-lt4 : goal.returns-then-first-lt4
returns-then-first-lt4 c = (blocks-short _ (search rules), search rules, search rules)

pub returns-then-nodes-gt4096 : goal.returns-then-nodes-gt4096
returns-then-nodes-gt4096 c = (blocks-many c.args.first.now (search rules) _ c.half_at-nodes.ensures (search rules), search rules, search rules)

pub returns : goal.returns
returns c = (blocks-few c.args.first.now (search rules) _ c.half_at-nodes.ensures (search rules), omega arith, omega arith)
