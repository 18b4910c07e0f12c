-- `markup::write_text` meets its contract.
-- Assumes nothing.
use Rattle.std.proofs.Common.{Ok}
use mathlib.Core.Path.{◌≡◌, sym, ap, ◌∙◌}
use native.Mathlib.Omega.{arith}
use Prim.Native.Nat.{◌≤◌}
use lib.ListN.{length, take, length-take}
use Rattle.tags.specs.Tags.{nodes_in}
use Rattle.markup.specs.Checks.{text_check}
use Rattle.markup.proofs.Checked.{read-wrong, read_right, text-told}
use Rattle.markup.proofs.write_text.Goals as goal

pub slice_bounds-nodes-end : goal.slice_bounds-nodes-end
slice_bounds-nodes-end c =
    -- the text is right, and its nodes are at the front of the list
    let h : length c.args.text.now ≤ 32768 = omega arith in
    let right : (text_check c.args.text.now ≡ Ok tt) × (c.in-Ok.k ≡ length (nodes_in c.args.text.now)) =
    read_right c.args.text.now c.read_text.result _ h c.read_text.ensures.0 c.in-Ok.is in
    let listed : take c.in-Ok.k c.read_text.new.nodes ≡ nodes_in c.args.text.now = rw c.in-Ok.is at c.read_text.ensures.1 in
    omega (arith, right.1, length-take c.in-Ok.k c.read_text.new.nodes, ap length listed)

pub slice_bounds-write_nodes-end : goal.slice_bounds-write_nodes-end
slice_bounds-write_nodes-end c =
    -- the text is right, and its nodes are at the front of the list
    let h : length c.args.text.now ≤ 32768 = omega arith in
    let right : (text_check c.args.text.now ≡ Ok tt) × (c.in-Ok.k ≡ length (nodes_in c.args.text.now)) =
    read_right c.args.text.now c.read_text.result _ h c.read_text.ensures.0 c.in-Ok.is in
    let listed : take c.in-Ok.k c.read_text.new.nodes ≡ nodes_in c.args.text.now = rw c.in-Ok.is at c.read_text.ensures.1 in
    right.1 ∙ sym (ap length listed)

pub write_nodes-requires : goal.write_nodes-requires
write_nodes-requires c =
    -- the text is right, and its nodes are at the front of the list
    let h : length c.args.text.now ≤ 32768 = omega arith in
    let right : (text_check c.args.text.now ≡ Ok tt) × (c.in-Ok.k ≡ length (nodes_in c.args.text.now)) =
    read_right c.args.text.now c.read_text.result _ h c.read_text.ensures.0 c.in-Ok.is in
    let listed : take c.in-Ok.k c.read_text.new.nodes ≡ nodes_in c.args.text.now = rw c.in-Ok.is at c.read_text.ensures.1 in
    (c.requires, right.0, listed)

pub returns-in-Err : goal.returns-in-Err
returns-in-Err c =
    let h : length c.args.text.now ≤ 32768 = omega arith in
    text-told c.args.signature c.args.text.now c.args.out.now _ _ _
    (read-wrong c.args.text.now c.read_text.result _ h c.read_text.ensures.0 c.in-Err.is)
    c.refused-in-Err.ensures c.refused_by-in-Err.ensures
