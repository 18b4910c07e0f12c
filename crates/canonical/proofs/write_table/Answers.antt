-- `canonical::write_table` meets its contract.
-- Assumes nothing.
use borrow.Author.Rules.{rules}
use mathlib.Core.Path.{sym}
use Rattle.canonical.proofs.Writing.{front-records, front-whole, front_long}
use Rattle.canonical.proofs.write_table.Goals as goal

pub slice_bounds-write_records-end : goal.slice_bounds-write_records-end
slice_bounds-write_records-end c = sym (front_long _ _ _ _ (search rules) c.write_rules-len.ensures)

pub write_records-requires : goal.write_records-requires
write_records-requires c =
    let w = c.write_rules-len in
    rw (front_long _ _ _ _ (search rules) w.ensures) (front-whole _ _ _ _ (search rules) w.ensures)

pub returns : goal.returns
returns c =
    let w = c.write_rules-len in
    c.write_records.ensures _ (front-records _ _ _ _ (search rules) w.ensures)
