-- `representatives::store` meets its contract.
-- Assumes nothing.
use borrow.Author.Rules.{rules}
use Prim.Native.Nat.{◌<◌}
use mathlib.Core.Path.{◌≡◌}
use lib.ListN.{length}
use Rattle.classes.specs.Classes.{parts_in}
use Rattle.representatives.proofs.Table.{written}
use Rattle.representatives.proofs.store.Goals as goal

pub returns : goal.returns
returns c =
    -- a class has 24 rows on each side
    let sizes : (length c.args.class.left.rows ≡ 24) × (length c.args.class.right.rows ≡ 24) = (search rules, search rules) in
    -- how the tree is built, a byte each
    let bytes : (c.args.origin.symbol.0 < 256) × (c.args.origin.left.0 < 256) × (c.args.origin.right.0 < 256) = (search rules, search rules, search rules) in
    let a = c.args in
    written a.row.0 _ _ _ (parts_in a.class) _ _ _ _ (search rules) (search rules) (sizes).0 (sizes).1 c.put_origin.ensures c.put_rows.ensures c.put_rows-2.ensures (bytes).0 (bytes).1 (bytes).2
