-- `batch::back` meets its contract: from the place on, or nothing.
-- Assumes nothing.
use borrow.Author.Rules.{rules}
use mathlib.Core.Path.{sym}
use native.Mathlib.Omega.{arith}
use Prim.Native.Nat.{◌-◌}
use lib.ListN.{length, drop, length-drop, drop_of_length-le}
use lib.Seq.{take_all}
use Rattle.batch.proofs.back.Goals as goal

pub returns-then-at-bytes : goal.returns-then-at-bytes
returns-then-at-bytes c =
    let k = c.args in
    take_all (length k.bytes.now - k.at) (drop k.at k.bytes.now) (omega (arith, length-drop k.at k.bytes.now))

pub returns-else-at-bytes : goal.returns-else-at-bytes
returns-else-at-bytes c = let k = c.before.before.args in sym (drop_of_length-le k.bytes.now {i = k.at} (search rules))
