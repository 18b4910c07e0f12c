-- `blocks::copy_content` meets its contract.
-- Assumes nothing.
use Rattle.std.proofs.Common.{◌≡◌, ℕ, ◌+◌, ◌-◌, ◌*◌, arith, rules}
use Rattle.blocks.proofs.Laws.{part-copied}
use Rattle.blocks.proofs.copy_content.Goals as goal

lent : (from : ℕ) → from + 508 - from ≡ 508
lent from = omega arith

pub returns : goal.returns
returns c =
    let a = c.args in
    part-copied a.file.now a.out.now _ (512 * a.b) (508 * a.b) 508 _ _ (lent (512 * a.b)) (lent (508 * a.b)) (search rules) (search rules) c.copy.ensures.1
