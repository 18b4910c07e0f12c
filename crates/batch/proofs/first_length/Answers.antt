-- `batch::first_length` meets its contract: the first block tells it.
-- Assumes nothing.
use native.Mathlib.Omega.{arith}
use Rattle.batch.proofs.Laws.{told-length}
use Rattle.batch.proofs.first_length.Goals as goal

pub returns : goal.returns
returns c =
    let f = c.front in
    let b = c.file_blocks.ensures in
    (told-length c.args.bytes.now _ _ f.ensures b.0, omega (arith, b.1), omega (arith, b.2))
